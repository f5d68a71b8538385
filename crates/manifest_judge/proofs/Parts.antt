-- What holds of each value that is read of an item which bytes spell, from what holds of its parts.
use Rattle.std.proofs.Common.{◌≡◌, ℕ, zero, suc, List, [], ◌∷◌, length, Option, None, Some, Result, Ok, Err, refl, ap, subst}
use Rattle.std.specs.Prelude.{Bool, true, false, IfOk}
use Rattle.std.specs.List.{AllByRecursion}
use Rattle.base_types.specs.Bytes.{IsBytes}
use Rattle.cbor_core.specs.declared.item.Item.{Item, out-Item}
use Rattle.cbor_core.specs.declared.item.Item.TheOpen.{Item-F}
use Rattle.cbor_core.specs.declared.item.Pair.{Pair}
use Rattle.cbor_core.specs.Spelling.{IsProperBy, IsProperWithin, IsInRangeBy, HasRangesWithin, HasRanges}
use Rattle.cbor_core.specs.Views.{bytes_of, array_of, map_of, field}
use Rattle.cbor_core.proofs.Public.Views.{bytes_is}
use Rattle.cbor_core.proofs.Public.Ranges.{bytes_in_range}
use Rattle.cbor_core.proofs.Public.Parts.{proper_more}
use Rattle.cbor_fields.specs.Written.{IsSpelled}
use Rattle.cbor_fields.proofs.Public.Spelled.{members_spelled, pairs_spelled, value_spelled}
use Rattle.item_codec.specs.Answers.{and_then, mapped, or_fault}
use Rattle.item_codec.specs.Fields.{needed_at, in_array, in_map}
use Rattle.item_codec.specs.Wrapped.{item_in, wrapped}
use Rattle.item_codec.proofs.Public.Decoded.{item_spells}
use Rattle.suit_envelope.specs.Each.{each_read}

-- every item that bytes spell gives such values alone
pub record Gives {V E : Type 0} (view : Item → Result V E) (P : V → Type 0) : Type 0 where
  pub each : (x : Item) → IsSpelled x → IfOk (view x) P

-- each pair's key and value is spelled by bytes
abbrev pub AreSpelledPairs : List Pair → Type 0
AreSpelledPairs ps = AllByRecursion (λ p. IsSpelled p.key × IsSpelled p.value) ps

-- what is made of a value that is such
pub then_has : {A B E : Type 0} (P : A → Type 0) (Q : B → Type 0) (k : A → Result B E) (r : Result A E) → IfOk r P → ((a : A) → P a → IfOk (k a) Q) → IfOk (and_then k r) Q
then_has P Q k (Ok a) has more = more a has
then_has P Q k (Err e) has more = tt

pub value_has : {V E : Type 0} (P : V → Type 0) (r : Result V E) (v : V) → IfOk r P → r ≡ Ok v → P v
value_has P (Ok w) v has is = let same : w ≡ v = cc in subst P same has
value_has P (Err e) v has is = absurd cc

module _ {V E : Type 0} {view : Item → Result V E} {P : V → Type 0} (gives : Gives view P) where
  -- the field under a label, which must be there
  pub field_has : (missing : E) (label : ℕ) (ps : List Pair) → AreSpelledPairs ps → IfOk (needed_at view missing (field label ps)) P
  field_has missing label ps spelled = by_field (field label ps) refl where
    by_field : (o : Option Item) → field label ps ≡ o → IfOk (needed_at view missing o) P
    by_field None at = tt
    by_field (Some x) at = gives.each x (value_spelled label ps x spelled at)

  -- what a byte string wraps
  pub wrapped_gives : (fault : E) → Gives (wrapped fault view) P
  wrapped_gives fault = record { each = λ x s. by_bytes x s (bytes_of x) refl } where
    by_item : (b : List ℕ) → IsBytes b → (o : Option Item) → item_in b ≡ o → IfOk (and_then view (or_fault fault o)) P
    by_item b are None in_b = tt
    by_item b are (Some y) in_b = (let inner = item_spells b y are in_b in gives.each y (record { proper = inner.proper; ranges = inner.ranges; spelled = refl }))

    by_bytes : (x : Item) → IsSpelled x → (o : Option (List ℕ)) → bytes_of x ≡ o → IfOk (and_then view (and_then (λ b. or_fault fault (item_in b)) (or_fault fault o))) P
    by_bytes x s None at = tt
    by_bytes x s (Some b) at = by_item b (bytes_in_range b (subst HasRanges (bytes_is x b at) s.ranges)) (item_in b) refl

  -- all members, one value for each
  pub each_gives : (xs : List Item) → AllByRecursion IsSpelled xs → IfOk (each_read view xs) (λ vs. AllByRecursion P vs × (length vs ≡ length xs))
  each_gives [] all = (tt, refl)
  each_gives (x ∷ xs) all = by_first (view x) (gives.each x all.0) (each_gives xs all.1) where
    by_rest : (v : V) → P v → (r : Result (List V) E) → IfOk r (λ vs. AllByRecursion P vs × (length vs ≡ length xs)) → IfOk (mapped (λ vs. v ∷ vs) r) (λ vs. AllByRecursion P vs × (length vs ≡ length (x ∷ xs)))
    by_rest v is (Ok vs) have = ((is, have.0), ap suc have.1)
    by_rest v is (Err e) have = tt

    by_first : (r : Result V E) → IfOk r P → IfOk (each_read view xs) (λ vs. AllByRecursion P vs × (length vs ≡ length xs))
        → IfOk (and_then (λ v. mapped (λ vs. v ∷ vs) (each_read view xs)) r) (λ vs. AllByRecursion P vs × (length vs ≡ length (x ∷ xs)))
    by_first (Ok v) is more = by_rest v is (each_read view xs) more
    by_first (Err e) is more = tt

module _ {V E : Type 0} (P : V → Type 0) where
  -- an array whose members are read so
  pub array_gives : (fault : E) (members : List Item → Result V E) → ((xs : List Item) → AllByRecursion IsSpelled xs → IfOk (members xs) P) → Gives (in_array fault members) P
  array_gives fault members have = record { each = λ x s. by_array x s (array_of x) refl } where
    by_array : (x : Item) → IsSpelled x → (o : Option (List Item)) → array_of x ≡ o → IfOk (and_then members (or_fault fault o)) P
    by_array x s None at = tt
    by_array x s (Some xs) at = have xs (members_spelled x xs s at)

  -- a map whose pairs are read so
  pub map_gives : (fault : E) (pairs : List Pair → Result V E) → ((ps : List Pair) → AreSpelledPairs ps → IfOk (pairs ps) P) → Gives (in_map fault pairs) P
  map_gives fault pairs have = record { each = λ x s. by_map x s (map_of x) refl } where
    by_map : (x : Item) → IsSpelled x → (o : Option (List Pair)) → map_of x ≡ o → IfOk (and_then pairs (or_fault fault o)) P
    by_map x s None at = tt
    by_map x s (Some ps) at = have ps (pairs_spelled x ps s at).spelled

-- ---- the item in a tag

module _ (P R S : Item → Type 0) (widen : (x : Item) → P x → R x → S x) where
  members_wider : (xs : List Item) → AllByRecursion P xs → AllByRecursion R xs → AllByRecursion S xs
  members_wider [] p r = tt
  members_wider (x ∷ xs) p r = (widen x p.0 r.0, members_wider xs p.1 r.1)

  pairs_wider : (ps : List Pair) → AllByRecursion (λ p. P p.key × P p.value) ps → AllByRecursion (λ p. R p.key × R p.value) ps → AllByRecursion (λ p. S p.key × S p.value) ps
  pairs_wider [] p r = tt
  pairs_wider (q ∷ qs) p r = ((widen q.key p.0.0 r.0.0, widen q.value p.0.1 r.0.1), pairs_wider qs p.1 r.1)

  level_wider : (room : Bool) (l : Item-F Item Pair) → IsProperBy room P l → IsInRangeBy R l → IsInRangeBy S l
  level_wider room (Item-F.Unsigned n) p r = r
  level_wider room (Item-F.Negative n) p r = r
  level_wider room (Item-F.Bytes bytes) p r = r
  level_wider room (Item-F.Text text) p r = r
  level_wider room (Item-F.Array xs) p r = (members_wider xs p.1 r.0, r.1)
  level_wider room (Item-F.Map ps) p r = (pairs_wider ps p.1 r.0, r.1)
  level_wider room (Item-F.Tag n x) p r = (widen x p.1 r.0, r.1)
  level_wider room (Item-F.Truth b) p r = tt
  level_wider room Item-F.Null p r = tt

ranges_wider : (d : ℕ) (x : Item) → IsProperWithin d x → HasRangesWithin d x → HasRangesWithin (suc d) x
ranges_wider zero x p r = level_wider (λ _. ⊥) (λ _. Unit {0}) (HasRangesWithin 0) (λ y none any. absurd none) false (out-Item x) p r
ranges_wider (suc d) x p r = level_wider (IsProperWithin d) (HasRangesWithin d) (HasRangesWithin (suc d)) (ranges_wider d) true (out-Item x) p r

-- what stands in a tag is spelled by bytes too
pub content_spelled : (x y : Item) (n : ℕ) → IsSpelled x → out-Item x ≡ Item-F.Tag n y → IsSpelled y
content_spelled x y n s at =
    let proper : IsProperBy true (IsProperWithin 15) (Item-F.Tag n y) = subst (λ (l : Item-F Item Pair). IsProperBy true (IsProperWithin 15) l) at s.proper in
    let ranges : IsInRangeBy (HasRangesWithin 15) (Item-F.Tag n y) = subst (λ (l : Item-F Item Pair). IsInRangeBy (HasRangesWithin 15) l) at s.ranges in
    record { proper = proper_more 15 y proper.1; ranges = ranges_wider 15 y proper.1 ranges.0; spelled = refl }
