-- The pairs of an ascending map are those that are no field, with each field put back.
use Rattle.std.proofs.Common.{◌≡◌, ℕ, suc, ◌+◌, ◌<◌, Bool, true, false, List, [], ◌∷◌, Option, Some, None, refl, sym, ap, ◌∙◌, arith}
use Rattle.std.specs.List.{AllByRecursion, prefix_len}
use Rattle.std.proofs.lemmas.Bool.{le-ltb, eqb-true}
use Rattle.cbor_core.specs.declared.item.Item.{Item, out-Item}
use Rattle.cbor_core.specs.declared.item.Pair.{Pair}
use Rattle.cbor_core.specs.declared.item.Item.TheOpen.{Item-F}
use Rattle.cbor_core.specs.declared.item.Item.TheViews.{roll-out-Item}
use Rattle.cbor_core.specs.declared.item.Item.TheVariants as i
use Rattle.cbor_core.specs.Spelling.{spelling, KeysAscend}
use Rattle.cbor_core.specs.Views.{field, labelled_by}
use Rattle.cbor_core.proofs.Public.Views.{key_is}
use Rattle.cbor_fields.specs.Views.{is_among, others}
use Rattle.cbor_fields.specs.Written.{labelled, is_below_by, is_below, put}
use Rattle.cbor_fields.proofs.Order.{IsPast, all_past}

-- ---- putting, pair by pair

pub put_end : (label : ℕ) (x : Item) → put label x [] ≡ labelled label x ∷ []
unfolding put
put_end label x = refl

one_more : (n : ℕ) → 1 + n ≡ suc n
one_more n = omega arith

pub put_behind : (label : ℕ) (x : Item) (p : Pair) (ps : List Pair) → is_below label p ≡ true → put label x (p ∷ ps) ≡ p ∷ put label x ps
unfolding put
put_behind label x p ps is = rw (is, one_more (prefix_len (is_below label) ps)) refl

pub put_here : (label : ℕ) (x : Item) (p : Pair) (ps : List Pair) → is_below label p ≡ false → put label x (p ∷ ps) ≡ labelled label x ∷ p ∷ ps
unfolding put
put_here label x p ps is = rw is refl

-- a value put, where there is one
abbrev pub put_option : ℕ → Option Item → List Pair → List Pair
put_option label None ps = ps
put_option label (Some x) ps = put label x ps

option_behind : (label : ℕ) (o : Option Item) (p : Pair) (ps : List Pair) → is_below label p ≡ true → put_option label o (p ∷ ps) ≡ p ∷ put_option label o ps
option_behind label None p ps is = refl
option_behind label (Some x) p ps is = put_behind label x p ps is

-- ---- behind the label

no_field : (label : ℕ) (ps : List Pair) → AllByRecursion (λ p. IsPast label p.key) ps → field label ps ≡ None
no_field label [] all = refl
no_field label (p ∷ ps) all = let e : labelled_by label (out-Item p.key) ≡ false = all.0.other in rw e (no_field label ps all.1)

same_others : (label : ℕ) (labels : List ℕ) (ps : List Pair) → AllByRecursion (λ p. IsPast label p.key) ps → others (label ∷ labels) ps ≡ others labels ps
same_others label labels [] all = refl
same_others label labels (p ∷ ps) all =
    let e : labelled_by label (out-Item p.key) ≡ false = all.0.other in
    rw (e, same_others label labels ps all.1) refl

put_first : (label : ℕ) (labels : List ℕ) (x : Item) (ps : List Pair) → AllByRecursion (λ p. IsPast label p.key) ps → put label x (others labels ps) ≡ labelled label x ∷ others labels ps
put_first label labels x [] all = put_end label x
put_first label labels x (p ∷ ps) all = by_test (is_among labels (out-Item p.key)) refl (put_first label labels x ps all.1) where
  by_test : (b : Bool) → is_among labels (out-Item p.key) ≡ b → put label x (others labels ps) ≡ labelled label x ∷ others labels ps → put label x (others labels (p ∷ ps)) ≡ labelled label x ∷ others labels (p ∷ ps)
  by_test true is more = rw is more
  by_test false is more = rw is (put_here label x p (others labels ps) all.0.above)

-- ---- one field put back

not_under : (label : ℕ) (l : Item-F Item Pair) → labelled_by label l ≡ true → is_below_by label l ≡ false
not_under label (Item-F.Unsigned n) is = let e : n ≡ label = eqb-true n label is in le-ltb n label (omega arith)
not_under label _ is = absurd cc

-- a label is not among others
abbrev pub IsNew : ℕ → List ℕ → Type 0
IsNew label labels = is_among labels (Item-F.Unsigned label) ≡ false

new_key : (label : ℕ) (labels : List ℕ) (l : Item-F Item Pair) → IsNew label labels → labelled_by label l ≡ true → is_among labels l ≡ false
new_key label labels (Item-F.Unsigned n) new is = let e : n ≡ label = eqb-true n label is in rw e new
new_key label labels _ new is = absurd cc

-- the pair of a key under a label
pub pair_is : (label : ℕ) (p : Pair) → labelled_by label (out-Item p.key) ≡ true → labelled label p.value ≡ p
pair_is label p is =
    let key : i.Unsigned label ≡ p.key = sym (sym (roll-out-Item p.key) ∙ key_is label (out-Item p.key) is) in
    ap (λ (k : Item). record { key = k; value = p.value }) key

module _ (label : ℕ) (labels : List ℕ) (small : label < 24) (new : IsNew label labels) where
  abbrev Restores : List Pair → Type 0
  Restores ps = put_option label (field label ps) (others (label ∷ labels) ps) ≡ others labels ps

  at_label : (p : Pair) (ps : List Pair) → KeysAscend (spelling p.key) ps → labelled_by label (out-Item p.key) ≡ true → Restores (p ∷ ps)
  at_label p ps ascend is =
      let all = all_past label p.key ps small (not_under label (out-Item p.key) is) ascend in
      let kept : is_among labels (out-Item p.key) ≡ false = new_key label labels (out-Item p.key) new is in
      let put_back : put label p.value (others (label ∷ labels) ps) ≡ p ∷ others labels ps =
      ap (put label p.value) (same_others label labels ps all) ∙ put_first label labels p.value ps all ∙ ap (λ (q : Pair). q ∷ others labels ps) (pair_is label p is) in
      rw (is, kept) put_back

  before_label : (p : Pair) (ps : List Pair) → labelled_by label (out-Item p.key) ≡ false → is_below label p ≡ true → Restores ps → Restores (p ∷ ps)
  before_label p ps is below more = by_test (is_among labels (out-Item p.key)) refl where
    by_test : (b : Bool) → is_among labels (out-Item p.key) ≡ b → Restores (p ∷ ps)
    by_test true among = rw (is, among) more
    by_test false among = rw (is, among) (option_behind label (field label ps) p (others (label ∷ labels) ps) below ∙ ap (λ (qs : List Pair). p ∷ qs) more)

  behind_label : (p : Pair) (ps : List Pair) → KeysAscend (spelling p.key) ps → labelled_by label (out-Item p.key) ≡ false → is_below label p ≡ false → Restores (p ∷ ps)
  behind_label p ps ascend is above =
      let all = all_past label p.key ps small above ascend in
      let none : field label ps ≡ None = no_field label ps all in
      let same : others (label ∷ labels) ps ≡ others labels ps = same_others label labels ps all in
      rw (is, none, same) refl

  pub restored : (last : List ℕ) (ps : List Pair) → KeysAscend last ps → Restores ps
  restored last [] ascend = refl
  restored last (p ∷ ps) ascend = by_tests (labelled_by label (out-Item p.key)) (is_below label p) refl refl (restored (spelling p.key) ps ascend.1) where
    by_tests : (b c : Bool) → labelled_by label (out-Item p.key) ≡ b → is_below label p ≡ c → Restores ps → Restores (p ∷ ps)
    by_tests true c is below more = at_label p ps ascend.1 is
    by_tests false true is below more = before_label p ps is below more
    by_tests false false is below more = behind_label p ps ascend.1 is below
