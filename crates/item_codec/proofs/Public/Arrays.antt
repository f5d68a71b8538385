-- The parts of an array, one behind the other, and a choice by a number that stands before them.
use Rattle.std.proofs.Common.{◌≡◌, ℕ, Bool, true, false, cond, List, Option, Some, None, refl, sym, ap, subst, ◌∙◌}
use Rattle.std.specs.Prelude.{Result, Ok, Err, ◌==◌, if◌then◌else◌}
use Rattle.std.specs.List.{AllByRecursion}
use Rattle.std.proofs.lemmas.Bool.{eqb-true}
use Rattle.cbor_core.specs.declared.item.Item.{Item}
use Rattle.cbor_core.specs.declared.item.Item.TheVariants as i
use Rattle.cbor_core.specs.Views.{array_of}
use Rattle.cbor_fields.specs.Written.{IsSpelled}
use Rattle.cbor_fields.proofs.Public.Spelled.{members_spelled}
use Rattle.cbor_core.proofs.Public.Views.{array_is}
use Rattle.item_codec.specs.Answers.{and_then, or_fault, IsSettled}
use Rattle.item_codec.specs.Part.{Part}
use Rattle.item_codec.specs.Fields.{part, in_array}
use Rattle.item_codec.proofs.Public.Settled.{fault_settled, then_settled}

-- ---- what was read

-- A reader of what is left of the parts. Its refusals are not want of memory. Where it gives a value, the members are the value's, and the
-- value has the property.
pub record Makes {S E : Type 0} (none : E) (members : S → List Item) (more : Result S E) (xs : List Item) (Q : S → Type 0) : Type 0 where
  pub settled : IsSettled none more
  pub back : AllByRecursion IsSpelled xs → (value : S) → more ≡ Ok value → xs ≡ members value
  pub proper : AllByRecursion IsSpelled xs → (value : S) → more ≡ Ok value → Q value

-- one part more
pub part_makes : {V S E : Type 0} {none : E} {view : Item → Result V E} {item : V → Item} {P : V → Type 0} (one : Part none view item P) (x : Item) (members : S → List Item)
    (others : V → Result S E) (front : Item → List Item) {Q : S → Type 0}
    → (AllByRecursion IsSpelled (front x) → IsSpelled x) → ((v : V) → Makes none members (others v) (front (item v)) (λ value. P v → Q value)) → Makes none members (part view x others) (front x) Q
part_makes {V} {S} {E} {none = none} {view = view} {item = item} one x members others front {Q} spelled more = record {
  settled = then_settled none others (view x) (one.settled x) (λ v. (more v).settled);
  back = λ all value e. by_view all value (view x) refl e;
  proper = λ all value e. proper_view all value (view x) refl e;
} where
  are : (v : V) → view x ≡ Ok v → AllByRecursion IsSpelled (front x) → AllByRecursion IsSpelled (front (item v))
  are v at all = subst (λ (y : Item). AllByRecursion IsSpelled (front y)) (one.fixes x v (spelled all) at) all

  by_view : AllByRecursion IsSpelled (front x) → (value : S) → (r : Result V E) → view x ≡ r → and_then others r ≡ Ok value → front x ≡ members value
  by_view all value (Err e) at h = absurd cc
  by_view all value (Ok v) at h = ap front (one.fixes x v (spelled all) at) ∙ (more v).back (are v at all) value h

  proper_view : AllByRecursion IsSpelled (front x) → (value : S) → (r : Result V E) → view x ≡ r → and_then others r ≡ Ok value → Q value
  proper_view all value (Err e) at h = absurd cc
  proper_view all value (Ok v) at h = (more v).proper (are v at all) value h (one.proper x v (spelled all) at)

-- all parts are read
pub all_made : {S E : Type 0} (none : E) (members : S → List Item) (made : S) (xs : List Item) {Q : S → Type 0} → xs ≡ members made → Q made → Makes none members (Ok made) xs Q
all_made none members made xs {Q} are proper = record {
  settled = tt;
  back = λ _ value e. (let same : made ≡ value = cc in are ∙ ap members same);
  proper = λ _ value e. (let same : made ≡ value = cc in subst Q same proper);
}

-- a refusal, as of another number of parts
pub none_made : {S E : Type 0} (none : E) (members : S → List Item) (fault : E) (xs : List Item) {Q : S → Type 0} → (fault ≡ none → ⊥) → Makes none members (Err fault) xs Q
none_made none members fault xs told = record { settled = told; back = λ _ value e. absurd cc; proper = λ _ value e. absurd cc }

-- one number of a choice
pub choice_makes : {S E : Type 0} {none : E} (kind n : ℕ) (members : S → List Item) (here other : Result S E) (front : ℕ → List Item) {Q : S → Type 0}
    → Makes none members here (front n) Q → Makes none members other (front kind) Q → Makes none members (if kind == n then here else other) (front kind) Q
choice_makes {S} {E} {none} kind n members here other front {Q} at_n at_other = by_test (kind == n) refl where
  by_test : (b : Bool) → (kind == n) ≡ b → Makes none members (cond b here other) (front kind) Q
  by_test true is = let same : n ≡ kind = sym (eqb-true kind n is) in subst (λ (k : ℕ). Makes none members here (front k) Q) same at_n
  by_test false is = at_other

-- ---- what was written

-- one part more is read again
pub part_seen : {V S E : Type 0} {none : E} {view : Item → Result V E} {item : V → Item} {P : V → Type 0} (one : Part none view item P) (v : V) (others : V → Result S E) (value : S) → P v
    → others v ≡ Ok value → part view (item v) others ≡ Ok value
part_seen one v others value is e = rw (one.seen v is) e

-- ---- the array as a part

pub array_part : {S E : Type 0} (none fault : E) (read : List Item → Result S E) (members : S → List Item) (P : S → Type 0) → (fault ≡ none → ⊥)
    → ((xs : List Item) → Makes none members (read xs) xs P)
    → ((v : S) → P v → read (members v) ≡ Ok v) → Part none (in_array fault read) (λ v. i.Array (members v)) P
array_part {S} {E} none fault read members P told makes seen = record {
  settled = λ x. then_settled none read (or_fault fault (array_of x)) (fault_settled none fault told (array_of x)) (λ xs. (makes xs).settled);
  fixes = λ x v s e. by_array x v s (array_of x) refl e;
  proper = λ x v s e. proper_array x v s (array_of x) refl e;
  seen = λ v is. rw i.outs-Array (seen v is);
} where
  by_array : (x : Item) (v : S) → IsSpelled x → (o : Option (List Item)) → array_of x ≡ o → and_then read (or_fault fault o) ≡ Ok v → x ≡ i.Array (members v)
  by_array x v s None at h = absurd cc
  by_array x v s (Some xs) at h = array_is x xs at ∙ ap (λ (ys : List Item). i.Array ys) ((makes xs).back (members_spelled x xs s at) v h)

  proper_array : (x : Item) (v : S) → IsSpelled x → (o : Option (List Item)) → array_of x ≡ o → and_then read (or_fault fault o) ≡ Ok v → P v
  proper_array x v s None at h = absurd cc
  proper_array x v s (Some xs) at h = (makes xs).proper (members_spelled x xs s at) v h
