-- Fields of a map that bytes spell, put back by their values.
use Rattle.std.proofs.Common.{◌≡◌, ℕ, ◌<◌, Bool, true, false, List, [], ◌∷◌, Option, Some, None, refl, sym, ap, ◌∙◌}
use Rattle.std.specs.Prelude.{option_map, option_and_then}
use Rattle.cbor_core.specs.declared.item.Item.{Item, out-Item}
use Rattle.cbor_core.specs.declared.item.Pair.{Pair}
use Rattle.cbor_core.specs.Views.{field, labelled_by}
use Rattle.cbor_fields.specs.Views.{optional, field_of, needed_of, keys_among, is_among, others}
use Rattle.cbor_fields.specs.Written.{Determines, put, put_if}
use Rattle.cbor_fields.specs.Law.{FieldsPutBack}
use Rattle.cbor_fields.proofs.Public.Spelled.{ArePairs, value_spelled}
use Rattle.cbor_fields.proofs.Public.Puts.{IsNew, put_option, restored}

module _ {V : Type 0} (view : Item → Option V) (item : V → Item) (determines : Determines view item) (label : ℕ) (labels : List ℕ) (small : label < 24) (new : IsNew label labels) (ps : List Pair) (are : ArePairs ps) where
  -- its value, where it is there
  put_value : (x : Item) → field label ps ≡ Some x → (value : V) → view x ≡ Some value → put label (item value) (others (label ∷ labels) ps) ≡ others labels ps
  put_value x at value is =
      let x_is : x ≡ item value = determines x value (value_spelled label ps x are.spelled at) is in
      let r : put_option label (field label ps) (others (label ∷ labels) ps) ≡ others labels ps = restored label labels small new [] ps are.ascend in
      ap (λ (y : Item). put label y (others (label ∷ labels) ps)) (sym x_is) ∙ ap (λ (o : Option Item). put_option label o (others (label ∷ labels) ps)) (sym at) ∙ r

  no_value : field label ps ≡ None → others (label ∷ labels) ps ≡ others labels ps
  no_value at =
      let r : put_option label (field label ps) (others (label ∷ labels) ps) ≡ others labels ps = restored label labels small new [] ps are.ascend in
      ap (λ (o : Option Item). put_option label o (others (label ∷ labels) ps)) (sym at) ∙ r

  by_view : (x : Item) → field label ps ≡ Some x → (o value : Option V) → view x ≡ o → option_map (λ (v : V). Some v) o ≡ Some value → put_if item label value (others (label ∷ labels) ps) ≡ others labels ps
  unfolding put_if
  by_view x at None value is e = absurd cc
  by_view x at (Some v) None is e = absurd cc
  by_view x at (Some v) (Some w) is e = let same : v ≡ w = cc in put_value x at w (is ∙ ap (λ (z : V). Some z) same)

  by_field : (o : Option Item) → field label ps ≡ o → (value : Option V) → optional view o ≡ Some value → put_if item label value (others (label ∷ labels) ps) ≡ others labels ps
  unfolding put_if
  by_field None at None e = no_value at
  by_field None at (Some v) e = absurd cc
  by_field (Some x) at value e = by_view x at (view x) value refl e

  -- an optional field
  pub field_back : (value : Option V) → field_of view label ps ≡ Some value → put_if item label value (others (label ∷ labels) ps) ≡ others labels ps
  field_back value e = by_field (field label ps) refl value e

  by_needed : (o : Option Item) → field label ps ≡ o → (value : V) → option_and_then view o ≡ Some value → put label (item value) (others (label ∷ labels) ps) ≡ others labels ps
  by_needed None at value e = absurd cc
  by_needed (Some x) at value e = put_value x at value e

  -- a field that must be there
  pub needed_back : (value : V) → needed_of view label ps ≡ Some value → put label (item value) (others (label ∷ labels) ps) ≡ others labels ps
  needed_back value e = by_needed (field label ps) refl value e

-- ---- no other field

others_more : (label : ℕ) (labels : List ℕ) (ps : List Pair) → others labels ps ≡ [] → others (label ∷ labels) ps ≡ []
others_more label labels [] e = refl
others_more label labels (p ∷ ps) e = by_tests (labelled_by label (out-Item p.key)) (is_among labels (out-Item p.key)) refl refl (λ more. others_more label labels ps more) where
  by_tests : (b c : Bool) → labelled_by label (out-Item p.key) ≡ b → is_among labels (out-Item p.key) ≡ c → (others labels ps ≡ [] → others (label ∷ labels) ps ≡ []) → others (label ∷ labels) (p ∷ ps) ≡ []
  by_tests true true is among later = rw is (later (rw among at e))
  by_tests false true is among later = rw (is, among) (later (rw among at e))
  by_tests b false is among later = absurd (let h = rw among at e in cc)

-- keys that are some of the labels leave no other pair
pub no_others : (labels : List ℕ) (ps : List Pair) → keys_among labels ps ≡ true → others labels ps ≡ []
no_others [] [] e = refl
no_others [] (p ∷ ps) e = absurd cc
no_others (label ∷ labels) [] e = refl
no_others (label ∷ labels) (p ∷ ps) e = by_test (labelled_by label (out-Item p.key)) refl (λ qs h. no_others labels qs h) where
  by_test : (b : Bool) → labelled_by label (out-Item p.key) ≡ b → ((qs : List Pair) → keys_among labels qs ≡ true → others labels qs ≡ []) → others (label ∷ labels) (p ∷ ps) ≡ []
  by_test true is later = let h : keys_among labels ps ≡ true = rw is at e in rw is (others_more label labels ps (later ps h))
  by_test false is later = let h : keys_among labels (p ∷ ps) ≡ true = rw is at e in others_more label labels (p ∷ ps) (later (p ∷ ps) h)

-- with no labels all pairs are others
pub all_others : (ps : List Pair) → others [] ps ≡ ps
all_others [] = refl
all_others (p ∷ ps) = ap (λ (qs : List Pair). p ∷ qs) (all_others ps)

-- ---- the law

if_option : (label : ℕ) (o : Option Item) (ps : List Pair) → put_if (λ (x : Item). x) label o ps ≡ put_option label o ps
unfolding put_if
if_option label None ps = refl
if_option label (Some x) ps = refl

pub put_back : FieldsPutBack
put_back label labels pairs small new ascend = if_option label (field label pairs) (others (label ∷ labels) pairs) ∙ restored label labels small new [] pairs ascend
