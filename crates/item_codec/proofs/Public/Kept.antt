-- A map of optional fields whose other pairs are kept.
use Rattle.std.proofs.Common.{◌≡◌, ℕ, ◌<◌, List, [], ◌∷◌, Option, Some, None, refl, sym, ap, subst, ◌∙◌}
use Rattle.std.specs.Prelude.{Result, Ok, Err, IfSome, option_map}
use Rattle.std.specs.Option.{option_or}
use Rattle.cbor_core.specs.declared.item.Item.{Item}
use Rattle.cbor_core.specs.declared.item.Item.TheVariants as i
use Rattle.cbor_core.specs.declared.item.Pair.{Pair}
use Rattle.cbor_core.specs.Views.{map_of, field}
use Rattle.cbor_fields.specs.Views.{others}
use Rattle.cbor_fields.specs.Written.{IsSpelled, put_if}
use Rattle.cbor_fields.proofs.Public.Spelled.{ArePairs, pairs_spelled, value_spelled}
use Rattle.cbor_core.proofs.Public.Views.{map_is}
use Rattle.cbor_fields.proofs.Public.Puts.{IsNew, put_option, restored}
use Rattle.cbor_fields.proofs.Public.Fields.{all_others}
use Rattle.item_codec.specs.Answers.{and_then, mapped, or_fault, IsSettled}
use Rattle.item_codec.specs.Part.{Part}
use Rattle.item_codec.specs.Fields.{optional_at, known, in_map}
use Rattle.item_codec.proofs.Public.Settled.{fault_settled, then_settled, optional_settled}

-- ---- what was read

-- A reader of what is left of the fields. Its refusals are not want of memory. Where it gives a value, the pairs are the value's rows, if
-- so_far are the kept pairs with the fields that were read put among them; and the value has the property.
pub record Keeps {S E : Type 0} (none : E) (rows : S → List Pair) (ps : List Pair) (more : Result S E) (so_far : List Pair) (labels : List ℕ) (Q : S → Type 0) : Type 0 where
  pub settled : IsSettled none more
  pub back : ArePairs ps → (value : S) → more ≡ Ok value → so_far ≡ others labels ps → rows value ≡ ps
  pub proper : ArePairs ps → (value : S) → more ≡ Ok value → Q value

module _ {V S E : Type 0} {none : E} {view : Item → Result V E} {item : V → Item} {P : V → Type 0} (part : Part none view item P) (label : ℕ) (labels : List ℕ) (small : label < 24)
    (new : IsNew label labels)
    (rows : S → List Pair) (ps : List Pair) (more : Option V → Result S E) (so_far : List Pair) {Q : S → Type 0}
    (keeps : (o : Option V) → Keeps none rows ps (more o) (put_if item label o so_far) labels (λ value. IfSome o P → Q value)) where
  by_view : (are : ArePairs ps) (value : S) → so_far ≡ others (label ∷ labels) ps → (x : Item) → field label ps ≡ Some x → (r : Result V E) → view x ≡ r
      → and_then more (mapped (λ (v : V). Some v) r) ≡ Ok value → rows value ≡ ps
  unfolding put_if
  by_view are value is x at (Err fault) e h = absurd cc
  by_view are value is x at (Ok v) e h =
      let same : x ≡ item v = part.fixes x v (value_spelled label ps x are.spelled at) e in
      let back : put_option label (field label ps) (others (label ∷ labels) ps) ≡ others labels ps = restored label labels small new [] ps are.ascend in
      let put_back : put_option label (Some x) so_far ≡ others labels ps =
      ap (put_option label (Some x)) is ∙ ap (λ (o : Option Item). put_option label o (others (label ∷ labels) ps)) (sym at) ∙ back in
      (keeps (Some v)).back are value h (ap (λ (y : Item). put_option label (Some y) so_far) (sym same) ∙ put_back)

  by_item : (are : ArePairs ps) (value : S) → so_far ≡ others (label ∷ labels) ps → (o : Option Item) → field label ps ≡ o → and_then more (optional_at view o) ≡ Ok value → rows value ≡ ps
  unfolding put_if
  by_item are value is None at h =
      let back : put_option label (field label ps) (others (label ∷ labels) ps) ≡ others labels ps = restored label labels small new [] ps are.ascend in
      (keeps None).back are value h (is ∙ ap (λ (o : Option Item). put_option label o (others (label ∷ labels) ps)) (sym at) ∙ back)
  by_item are value is (Some x) at h = by_view are value is x at (view x) refl h

  view_proper : (are : ArePairs ps) (value : S) (x : Item) → field label ps ≡ Some x → (r : Result V E) → view x ≡ r → and_then more (mapped (λ (v : V). Some v) r) ≡ Ok value → Q value
  view_proper are value x at (Err fault) e h = absurd cc
  view_proper are value x at (Ok v) e h = (keeps (Some v)).proper are value h (part.proper x v (value_spelled label ps x are.spelled at) e)

  item_proper : (are : ArePairs ps) (value : S) (o : Option Item) → field label ps ≡ o → and_then more (optional_at view o) ≡ Ok value → Q value
  item_proper are value None at h = (keeps None).proper are value h tt
  item_proper are value (Some x) at h = view_proper are value x at (view x) refl h

  -- one field more
  pub known_keeps : Keeps none rows ps (known view (field label ps) more) so_far (label ∷ labels) Q
  known_keeps = record {
    settled = then_settled none more (optional_at view (field label ps)) (optional_settled none view part.settled (field label ps)) (λ o. (keeps o).settled);
    back = λ are value e is. by_item are value is (field label ps) refl e;
    proper = λ are value e. item_proper are value (field label ps) refl e;
  }

-- all fields are read
pub all_keep : {S E : Type 0} (none : E) (rows : S → List Pair) (ps : List Pair) (made : S) (so_far : List Pair) {Q : S → Type 0} → rows made ≡ so_far → Q made
    → Keeps none rows ps (Ok made) so_far [] Q
all_keep none rows ps made so_far {Q} are proper = record {
  settled = tt;
  back = λ _ value e is. (let same : value ≡ made = cc in ap rows same ∙ are ∙ is ∙ all_others ps);
  proper = λ _ value e. (let same : made ≡ value = cc in subst Q same proper);
}

-- ---- what was written

-- one field more is read again, where it is found
pub known_seen : {V S E : Type 0} {none : E} {view : Item → Result V E} {item : V → Item} {P : V → Type 0} (part : Part none view item P) (more : Option V → Result S E) (o : Option V)
    (found : Option Item) (value : S)
    → IfSome o P → found ≡ option_or (option_map item o) None → more o ≡ Ok value → known view found more ≡ Ok value
known_seen part more None found value is at e = rw at e
known_seen part more (Some v) found value is at e = rw (at, part.seen v is) e

-- ---- the map as a part

pub kept_part : {S E : Type 0} (none fault : E) (pairs : List Pair → Result S E) (rows : S → List Pair) (P : S → Type 0) (labels : List ℕ) → (fault ≡ none → ⊥)
    → ((ps : List Pair) → Keeps none rows ps (pairs ps) (others labels ps) labels P) → ((v : S) → P v → pairs (rows v) ≡ Ok v) → Part none (in_map fault pairs) (λ v. i.Map (rows v)) P
kept_part {S} {E} none fault pairs rows P labels told keeps seen = record {
  settled = λ x. then_settled none pairs (or_fault fault (map_of x)) (fault_settled none fault told (map_of x)) (λ ps. (keeps ps).settled);
  fixes = λ x v s e. by_map x v s (map_of x) refl e;
  proper = λ x v s e. proper_map x v s (map_of x) refl e;
  seen = λ v is. rw i.outs-Map (seen v is);
} where
  by_map : (x : Item) (v : S) → IsSpelled x → (o : Option (List Pair)) → map_of x ≡ o → and_then pairs (or_fault fault o) ≡ Ok v → x ≡ i.Map (rows v)
  by_map x v s None at h = absurd cc
  by_map x v s (Some ps) at h = map_is x ps at ∙ ap (λ (qs : List Pair). i.Map qs) (sym ((keeps ps).back (pairs_spelled x ps s at) v h refl))

  proper_map : (x : Item) (v : S) → IsSpelled x → (o : Option (List Pair)) → map_of x ≡ o → and_then pairs (or_fault fault o) ≡ Ok v → P v
  proper_map x v s None at h = absurd cc
  proper_map x v s (Some ps) at h = (keeps ps).proper (pairs_spelled x ps s at) v h
