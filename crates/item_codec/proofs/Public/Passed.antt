-- Fields under labels of both signs, in a map whose other pairs are passed over.
use Rattle.std.proofs.Common.{◌≡◌, ℕ, Bool, true, false, List, [], ◌∷◌, Option, Some, None, refl, subst}
use Rattle.std.specs.Prelude.{Result, Ok, Err, IfSome}
use Rattle.cbor_core.specs.declared.item.Item.{Item, out-Item}
use Rattle.cbor_core.specs.declared.item.Item.TheVariants as i
use Rattle.cbor_core.specs.declared.item.Pair.{Pair}
use Rattle.cbor_core.specs.Views.{map_of, field}
use Rattle.cbor_fields.specs.Views.{negative_labelled_by, negative_field}
use Rattle.cbor_fields.specs.Written.{IsSpelled}
use Rattle.cbor_fields.proofs.Public.Spelled.{pairs_spelled, value_spelled}
use Rattle.item_codec.specs.Answers.{and_then, mapped, or_fault, IsSettled}
use Rattle.item_codec.specs.Part.{Part, PassingPart}
use Rattle.item_codec.specs.Fields.{optional_at, needed_at, known, required, in_map}
use Rattle.item_codec.proofs.Public.Settled.{fault_settled, then_settled, optional_settled, needed_settled}
use Rattle.item_codec.proofs.Public.Ordered.{AreSpelled}

-- ---- where an item is found

-- bytes spell the item that is found among pairs, where one is
pub record Found (ps : List Pair) (found : Option Item) : Type 0 where
  pub spelled : AreSpelled ps → (x : Item) → found ≡ Some x → IsSpelled x

pub under : (label : ℕ) (ps : List Pair) → Found ps (field label ps)
under label ps = record { spelled = λ all x at. value_spelled label ps x all at }

negative_spelled : (label : ℕ) (ps : List Pair) (x : Item) → AreSpelled ps → negative_field label ps ≡ Some x → IsSpelled x
negative_spelled label [] x all at = absurd cc
negative_spelled label (p ∷ ps) x all at = here (negative_labelled_by label (out-Item p.key)) refl (λ later. negative_spelled label ps x all.1 later) where
  here : (b : Bool) → negative_labelled_by label (out-Item p.key) ≡ b → (negative_field label ps ≡ Some x → IsSpelled x) → IsSpelled x
  here true is later =
      let value : Some p.value ≡ Some x = rw is at at in
      let same : p.value ≡ x = cc in
      subst IsSpelled same all.0.1
  here false is later = later (rw is at at)

pub under_negative : (label : ℕ) (ps : List Pair) → Found ps (negative_field label ps)
under_negative label ps = record { spelled = λ all x at. negative_spelled label ps x all at }

-- ---- what was read

-- A reader of what is left of the fields. Its refusals are not want of memory, and the value that it gives has the property.
pub record Passes {S E : Type 0} (none : E) (ps : List Pair) (more : Result S E) (Q : S → Type 0) : Type 0 where
  pub settled : IsSettled none more
  pub proper : AreSpelled ps → (value : S) → more ≡ Ok value → Q value

module _ {V S E : Type 0} {none : E} {view : Item → Result V E} {item : V → Item} {P : V → Type 0} (part : Part none view item P) (ps : List Pair) (found : Option Item) (is : Found ps found) where
  module _ (more : Option V → Result S E) {Q : S → Type 0} (passes : (o : Option V) → Passes none ps (more o) (λ value. IfSome o P → Q value)) where
    by_view : AreSpelled ps → (value : S) (x : Item) → found ≡ Some x → (r : Result V E) → view x ≡ r → and_then more (mapped (λ (v : V). Some v) r) ≡ Ok value → Q value
    by_view all value x at (Err e) of h = absurd cc
    by_view all value x at (Ok v) of h = (passes (Some v)).proper all value h (part.proper x v (is.spelled all x at) of)

    by_item : AreSpelled ps → (value : S) (o : Option Item) → found ≡ o → and_then more (optional_at view o) ≡ Ok value → Q value
    by_item all value None at h = (passes None).proper all value h tt
    by_item all value (Some x) at h = by_view all value x at (view x) refl h

    -- a field that may be there
    pub known_passes : Passes none ps (known view found more) Q
    known_passes = record {
      settled = then_settled none more (optional_at view found) (optional_settled none view part.settled found) (λ o. (passes o).settled);
      proper = λ all value h. by_item all value found refl h;
    }

  module _ (missing : E) (told : missing ≡ none → ⊥) (more : V → Result S E) {Q : S → Type 0} (passes : (v : V) → Passes none ps (more v) (λ value. P v → Q value)) where
    needed_by_view : AreSpelled ps → (value : S) (x : Item) → found ≡ Some x → (r : Result V E) → view x ≡ r → and_then more r ≡ Ok value → Q value
    needed_by_view all value x at (Err e) of h = absurd cc
    needed_by_view all value x at (Ok v) of h = (passes v).proper all value h (part.proper x v (is.spelled all x at) of)

    needed_by_item : AreSpelled ps → (value : S) (o : Option Item) → found ≡ o → and_then more (needed_at view missing o) ≡ Ok value → Q value
    needed_by_item all value None at h = absurd cc
    needed_by_item all value (Some x) at h = needed_by_view all value x at (view x) refl h

    -- a field that must be there
    pub required_passes : Passes none ps (required view missing found more) Q
    required_passes = record {
      settled = then_settled none more (needed_at view missing found) (needed_settled none view part.settled missing told found) (λ v. (passes v).settled);
      proper = λ all value h. needed_by_item all value found refl h;
    }

-- all fields are read
pub all_pass : {S E : Type 0} (none : E) (ps : List Pair) (made : S) {Q : S → Type 0} → Q made → Passes none ps (Ok made) Q
all_pass none ps made {Q} proper = record { settled = tt; proper = λ _ value e. (let same : made ≡ value = cc in subst Q same proper) }

-- ---- what was written

-- a field that must be there is read again, where it is found
pub required_seen : {V S E : Type 0} {none : E} {view : Item → Result V E} {item : V → Item} {P : V → Type 0} (part : Part none view item P) (missing : E) (more : V → Result S E) (v : V)
    (found : Option Item) (value : S)
    → P v → found ≡ Some (item v) → more v ≡ Ok value → required view missing found more ≡ Ok value
required_seen part missing more v found value is at e = rw (at, part.seen v is) e

-- ---- the map as a part

pub passing_part : {S E : Type 0} (none fault : E) (pairs : List Pair → Result S E) (rows : S → List Pair) (P : S → Type 0) → (fault ≡ none → ⊥) → ((ps : List Pair) → Passes none ps (pairs ps) P)
    → ((v : S) → P v → pairs (rows v) ≡ Ok v) → PassingPart none (in_map fault pairs) (λ v. i.Map (rows v)) P
passing_part {S} {E} none fault pairs rows P told passes seen = record {
  settled = λ x. then_settled none pairs (or_fault fault (map_of x)) (fault_settled none fault told (map_of x)) (λ ps. (passes ps).settled);
  proper = λ x v s e. by_map x v s (map_of x) refl e;
  seen = λ v is. rw i.outs-Map (seen v is);
} where
  by_map : (x : Item) (v : S) → IsSpelled x → (o : Option (List Pair)) → map_of x ≡ o → and_then pairs (or_fault fault o) ≡ Ok v → P v
  by_map x v s None at h = absurd cc
  by_map x v s (Some ps) at h = let are = pairs_spelled x ps s at in (passes ps).proper are.spelled v h
