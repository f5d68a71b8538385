-- What is known of a value by the item that has it.
use Rattle.std.proofs.Common.{◌≡◌, ℕ, Bool, true, false, cond, List, [], ◌∷◌, Option, Some, None, refl, subst}
use Rattle.std.specs.Prelude.{option_map, option_and_then, IfSome}
use Rattle.std.specs.List.{AllByRecursion}
use Rattle.cbor_core.specs.declared.item.Item.{Item}
use Rattle.cbor_core.specs.declared.item.Pair.{Pair}
use Rattle.cbor_core.specs.Spelling.{spelling, Spells}
use Rattle.cbor_core.specs.Views.{array_of, field}
use Rattle.cbor_fields.specs.Views.{SpellsId, each_of, list_of, is_id, id_of, optional, field_of, needed_of, is_other, others}
use Rattle.cbor_fields.specs.Written.{IsSpelled}
use Rattle.cbor_fields.proofs.Public.Spelled.{ArePairs, members_spelled, value_spelled}

-- ---- where a fact follows from a value

module _ {V : Type 0} (view : Item → Option V) (P : V → Type 0) (gives : (x : Item) (v : V) → IsSpelled x → view x ≡ Some v → P v) where
  each_gives : (xs : List Item) (vs : List V) → AllByRecursion IsSpelled xs → each_of view xs ≡ Some vs → AllByRecursion P vs
  each_gives [] [] all e = tt
  each_gives [] (v ∷ vs) all e = absurd cc
  each_gives (x ∷ xs) vs all e = by_first (view x) refl (λ us h. each_gives xs us all.1 h) vs e where
    by_rest : (v : V) → view x ≡ Some v → ((us : List V) → each_of view xs ≡ Some us → AllByRecursion P us) → (o : Option (List V)) → each_of view xs ≡ o → (vs : List V) → option_map (λ ys. v ∷ ys) o ≡ Some vs → AllByRecursion P vs
    by_rest v is later None rest vs e = absurd cc
    by_rest v is later (Some ws) rest vs e =
        let same : v ∷ ws ≡ vs = cc in
        subst (λ (us : List V). AllByRecursion P us) same (gives x v all.0 is, later ws rest)

    by_first : (o : Option V) → view x ≡ o → ((us : List V) → each_of view xs ≡ Some us → AllByRecursion P us) → (vs : List V) → option_and_then (λ y. option_map (λ ys. y ∷ ys) (each_of view xs)) o ≡ Some vs → AllByRecursion P vs
    by_first None is later vs e = absurd cc
    by_first (Some v) is later vs e = by_rest v is later (each_of view xs) refl vs e

  by_array : (x : Item) (o : Option (List Item)) (vs : List V) → IsSpelled x → array_of x ≡ o → option_and_then (each_of view) o ≡ Some vs → AllByRecursion P vs
  by_array x None vs s is e = absurd cc
  by_array x (Some xs) vs s is e = each_gives xs vs (members_spelled x xs s is) e

  -- it follows of each value of an array
  pub list_gives : (x : Item) (vs : List V) → IsSpelled x → list_of view x ≡ Some vs → AllByRecursion P vs
  list_gives x vs s e = by_array x (array_of x) vs s refl e

  by_view : (x : Item) (o : Option V) (value : Option V) → IsSpelled x → view x ≡ o → option_map (λ (v : V). Some v) o ≡ Some value → IfSome value P
  by_view x None value s is e = absurd cc
  by_view x (Some v) None s is e = absurd cc
  by_view x (Some v) (Some w) s is e = let same : v ≡ w = cc in subst P same (gives x v s is)

module _ {V : Type 0} (view : Item → Option V) (P : V → Type 0) (gives : (x : Item) (v : V) → IsSpelled x → view x ≡ Some v → P v) (label : ℕ) (ps : List Pair) (are : ArePairs ps) where
  by_field : (o : Option Item) (value : Option V) → field label ps ≡ o → optional view o ≡ Some value → IfSome value P
  by_field None None is e = tt
  by_field None (Some v) is e = absurd cc
  by_field (Some x) value is e = by_view view P gives x (view x) value (value_spelled label ps x are.spelled is) refl e

  -- it follows of the value of an optional field
  pub field_gives : (value : Option V) → field_of view label ps ≡ Some value → IfSome value P
  field_gives value e = by_field (field label ps) value refl e

  by_needed : (o : Option Item) (v : V) → field label ps ≡ o → option_and_then view o ≡ Some v → P v
  by_needed None v is e = absurd cc
  by_needed (Some x) v is e = gives x v (value_spelled label ps x are.spelled is) e

  -- it follows of the value of a field that must be there
  pub needed_gives : (v : V) → needed_of view label ps ≡ Some v → P v
  needed_gives v e = by_needed (field label ps) v refl e

-- ---- identifiers

by_id : (x : Item) (bytes : List ℕ) (b : Bool) → IsSpelled x → is_id x ≡ b → cond b (Some (spelling x)) None ≡ Some bytes → SpellsId x bytes
by_id x bytes true s is e =
    let same : spelling x ≡ bytes = cc in
    (subst (λ (t : List ℕ). Spells x t) same s, is)
by_id x bytes false s is e = absurd cc

-- what is read as an identifier spells one
pub id_gives : (x : Item) (bytes : List ℕ) → IsSpelled x → id_of x ≡ Some bytes → SpellsId x bytes
id_gives x bytes s e = by_id x bytes (is_id x) s refl e

-- ---- other pairs

-- the pairs that are kept have none of the labels
pub others_are : (labels : List ℕ) (ps : List Pair) → AllByRecursion (λ p. is_other labels p ≡ true) (others labels ps)
others_are labels [] = tt
others_are labels (p ∷ ps) = by_test (is_other labels p) refl (others_are labels ps) where
  by_test : (b : Bool) → is_other labels p ≡ b → AllByRecursion (λ q. is_other labels q ≡ true) (others labels ps) → AllByRecursion (λ q. is_other labels q ≡ true) (others labels (p ∷ ps))
  by_test true is more = rw is (is, more)
  by_test false is more = rw is more
