-- The fields of an envelope that was read: its blocks are bytes, its manifest has an identifier and 1 to 16 others as components, no two the same.
use Rattle.std.proofs.Common.{◌≡◌, ℕ, zero, suc, ◌<◌, ◌≤◌, List, [], ◌∷◌, length, Option, None, Some, Result, Ok, Err, get_or, cond, refl, sym, subst, arith}
use Rattle.std.specs.Prelude.{Bool, true, false, nat_eq, nat_le, ◌&&◌, ◌==◌, ◌≢◌, IfOk}
use Rattle.std.specs.List.{AllByRecursion}
use Rattle.std.specs.Cmp.Lexicographic.{pointwise, bytes_decides}
use Rattle.std.proofs.lemmas.Bool.{leb-true}
use Rattle.base_types.specs.Bytes.{IsBytes}
use Rattle.base_types.specs.declared.limits.TheConstants.{COMPONENTS_LIMIT, COMPONENT_ID_LIMIT}
use Rattle.cbor_core.specs.declared.item.Item.{Item, out-Item}
use Rattle.cbor_core.specs.declared.item.Item.TheOpen.{Item-F}
use Rattle.cbor_core.specs.declared.item.Pair.{Pair}
use Rattle.cbor_core.specs.Spelling.{spelling, HasRanges}
use Rattle.cbor_core.specs.Views.{bytes_of, unsigned_of, field}
use Rattle.cbor_core.proofs.Public.Views.{bytes_is}
use Rattle.cbor_core.proofs.Public.Ranges.{bytes_in_range}
use Rattle.cbor_fields.specs.Views.{is_id, IsIdentifier}
use Rattle.cbor_fields.specs.Written.{IsSpelled}
use Rattle.item_codec.specs.Answers.{and_then, or_fault}
use Rattle.item_codec.specs.Fields.{shaped, within, needed_at, optional_at, in_map}
use Rattle.item_codec.specs.Wrapped.{wrapped}
use Rattle.suit_commands.specs.Digests.{wrapped_digest_of}
use Rattle.suit_envelope.specs.declared.envelope.Envelope.{Envelope}
use Rattle.suit_envelope.specs.declared.manifest.Manifest.{Manifest}
use Rattle.suit_envelope.specs.declared.fault.EnvelopeFault.{EnvelopeFault}
use Rattle.suit_envelope.specs.declared.fault.EnvelopeFault.TheVariants.{Shape}
use Rattle.suit_envelope.specs.Each.{each_read}
use Rattle.suit_envelope.specs.Wrapper.{wrapper_in, wrapper_of}
use Rattle.suit_envelope.specs.Manifests.{identifier, is_one_of, are_distinct, distinct, components_in, components_of, common_in, common_of, is_version, versioned_in, manifest_in, manifest_of}
use Rattle.suit_envelope.specs.Envelopes.{envelope_in, content_by, envelope_of, EnvelopeIs}
use Rattle.device_state.specs.Valid.{IsShortId, NoneTwice}
use Rattle.manifest_judge.proofs.Parts.{Gives, AreSpelledPairs, then_has, value_has, field_has, wrapped_gives, each_gives, array_gives, map_gives, content_spelled}

-- nothing is said of a value
pub any_has : {V E : Type 0} (r : Result V E) → IfOk r (λ _. Unit {0})
any_has (Ok v) = tt
any_has (Err e) = tt

-- ---- byte strings

string_gives : (n : ℕ) → Gives {E = EnvelopeFault} (shaped (Shape n) bytes_of) IsBytes
string_gives n = record { each = λ x s. by_bytes x s (bytes_of x) refl } where
  by_bytes : (x : Item) → IsSpelled x → (o : Option (List ℕ)) → bytes_of x ≡ o → IfOk (or_fault (Shape n) o) IsBytes
  by_bytes x s None at = tt
  by_bytes x s (Some b) at = bytes_in_range b (subst HasRanges (bytes_is x b at) s.ranges)

-- ---- the blocks of a wrapper

wrapper_has : (xs : List Item) → AllByRecursion IsSpelled xs → IfOk (wrapper_in xs) (λ w. AllByRecursion IsBytes w.blocks)
wrapper_has [] all = tt
wrapper_has (d ∷ xs) all =
    then_has (λ _. Unit {0}) _ _ (shaped (Shape 2) wrapped_digest_of d) (any_has _) (λ value _.
    then_has (λ _. Unit {0}) _ _ (shaped (Shape 2) bytes_of d) (any_has _) (λ bytes _.
    then_has (λ bs. AllByRecursion IsBytes bs × (length bs ≡ length xs)) _ _ (each_read (shaped (Shape 2) bytes_of) xs) (each_gives (string_gives 2) xs all.1) (λ bs have. have.0)))

wrapper_gives : Gives wrapper_of (λ w. AllByRecursion IsBytes w.blocks)
wrapper_gives = wrapped_gives (array_gives (λ w. AllByRecursion IsBytes w.blocks) (Shape 2) wrapper_in wrapper_has) (Shape 2)

-- ---- identifiers

id_gives : (n : ℕ) → Gives (identifier (Shape n)) IsShortId
id_gives n = record { each = λ x s. by_id x s (is_id x) refl } where
  by_size : (b : List ℕ) → IsIdentifier b → (low high : Bool) → nat_le 0 (length b) ≡ low → nat_le (length b) COMPONENT_ID_LIMIT ≡ high → IfOk (cond (low && high) (Ok b) (Err (Shape n))) IsShortId
  by_size b is false high at_low at_high = tt
  by_size b is true false at_low at_high = tt
  by_size b is true true at_low at_high = record { identifier = is; short = leb-true (length b) COMPONENT_ID_LIMIT at_high }

  by_id : (x : Item) → IsSpelled x → (t : Bool) → is_id x ≡ t → IfOk (and_then (within 0 COMPONENT_ID_LIMIT (Shape n)) (or_fault (Shape n) (cond t (Some (spelling x)) None))) IsShortId
  by_id x s false at = tt
  by_id x s true at = by_size (spelling x) (x, (s, at)) (nat_le 0 (length (spelling x))) (nat_le (length (spelling x)) COMPONENT_ID_LIMIT) refl refl

-- ---- no two the same

not_same : (a b : List ℕ) → pointwise nat_eq a b ≡ false → a ≢ b
not_same a b is same = let true_is : pointwise nat_eq a b ≡ true = (bytes_decides a b).1 same in absurd cc

none_of : (bytes : List ℕ) (others : List (List ℕ)) → is_one_of bytes others ≡ false → (j : ℕ) (d : List ℕ) → j < length others → bytes ≢ get_or others j d
none_of bytes [] is j d inside = absurd (omega arith)
none_of bytes (first ∷ others) is j d inside = by_first (pointwise nat_eq first bytes) refl is (λ rest k lt. none_of bytes others rest k d lt) where
  by_place : (k : ℕ) → k < length (first ∷ others) → pointwise nat_eq first bytes ≡ false → ((l : ℕ) → l < length others → bytes ≢ get_or others l d) → bytes ≢ get_or (first ∷ others) k d
  by_place zero in_first other more same = not_same first bytes other (sym same)
  by_place (suc k) in_others other more same = more k (omega arith) same

  by_first : (t : Bool) → pointwise nat_eq first bytes ≡ t → cond t true (is_one_of bytes others) ≡ false
      → (is_one_of bytes others ≡ false → (l : ℕ) → l < length others → bytes ≢ get_or others l d) → bytes ≢ get_or (first ∷ others) j d
  by_first true at h more = absurd cc
  by_first false at h more = by_place j inside at (more h)

all_apart : (ids : List (List ℕ)) → are_distinct ids ≡ true → NoneTwice ids
all_apart [] is i j d less inside = absurd (omega arith)
all_apart (first ∷ others) is i j d less inside = by_first (is_one_of first others) refl is (λ rest a b up in_all. all_apart others rest a b d up in_all) where
  by_places : (a b : ℕ) → a < b → b < length (first ∷ others) → is_one_of first others ≡ false → ((k l : ℕ) → k < l → l < length others → get_or others k d ≢ get_or others l d)
      → get_or (first ∷ others) a d ≢ get_or (first ∷ others) b d
  by_places zero zero up in_all none more = absurd (omega arith)
  by_places zero (suc b) up in_all none more = none_of first others none b d (omega arith)
  by_places (suc a) zero up in_all none more = absurd (omega arith)
  by_places (suc a) (suc b) up in_all none more = more a b (omega arith) (omega arith)

  by_first : (t : Bool) → is_one_of first others ≡ t → cond t false (are_distinct others) ≡ true
      → (are_distinct others ≡ true → (k l : ℕ) → k < l → l < length others → get_or others k d ≢ get_or others l d) → get_or (first ∷ others) i d ≢ get_or (first ∷ others) j d
  by_first true at h more = absurd cc
  by_first false at h more = by_places i j less inside at (more h)

-- ---- the components

-- 1 to 16 identifiers, no two the same
pub record AreComponents (ids : List (List ℕ)) : Type 0 where
  pub short : AllByRecursion IsShortId ids
  pub least : 1 ≤ length ids
  pub most : length ids ≤ COMPONENTS_LIMIT
  pub distinct : NoneTwice ids

components_have : (xs : List Item) → AllByRecursion IsSpelled xs → IfOk (components_in xs) AreComponents
components_have xs all = by_count (nat_le 1 (length xs)) (nat_le (length xs) COMPONENTS_LIMIT) refl refl where
  by_distinct : (ids : List (List ℕ)) → AllByRecursion IsShortId ids → length ids ≡ length xs → 1 ≤ length xs → length xs ≤ COMPONENTS_LIMIT → (t : Bool) → are_distinct ids ≡ t
      → IfOk (cond t (Ok ids) (Err (Shape 13))) AreComponents
  by_distinct ids short size least most false at = tt
  by_distinct ids short size least most true at = record { short = short; least = omega arith; most = omega arith; distinct = all_apart ids at }

  by_count : (low high : Bool) → nat_le 1 (length xs) ≡ low → nat_le (length xs) COMPONENTS_LIMIT ≡ high
      → IfOk (cond (low && high) (and_then distinct (each_read (identifier (Shape 13)) xs)) (Err (Shape 13))) AreComponents
  by_count false high at_low at_high = tt
  by_count true false at_low at_high = tt
  by_count true true at_low at_high =
      then_has (λ ids. AllByRecursion IsShortId ids × (length ids ≡ length xs)) AreComponents distinct (each_read (identifier (Shape 13)) xs) (each_gives (id_gives 13) xs all)
      (λ ids have. by_distinct ids have.0 have.1 (leb-true 1 (length xs) at_low) (leb-true (length xs) COMPONENTS_LIMIT at_high) (are_distinct ids) refl)

components_give : Gives components_of AreComponents
components_give = array_gives AreComponents (Shape 13) components_in components_have

common_has : (ps : List Pair) → AreSpelledPairs ps → IfOk (common_in ps) (λ c. AreComponents c.components)
common_has ps spelled =
    then_has AreComponents _ _ (needed_at components_of (Shape 13) (field 2 ps)) (field_has components_give (Shape 13) 2 ps spelled) (λ ids are.
    then_has (λ _. Unit {0}) _ _ (optional_at (shaped (Shape 13) bytes_of) (field 4 ps)) (any_has _) (λ shared _. are))

common_gives : Gives common_of (λ c. AreComponents c.components)
common_gives = wrapped_gives (map_gives (λ c. AreComponents c.components) (Shape 13) common_in common_has) (Shape 13)

-- ---- the manifest

-- it has an identifier, and such components
pub record HasIds (m : Manifest) : Type 0 where
  pub id : IsShortId m.id
  pub components : AreComponents m.components

versioned_has : (ps : List Pair) → AreSpelledPairs ps → IfOk (versioned_in ps) HasIds
versioned_has ps spelled =
    then_has (λ _. Unit {0}) HasIds _ (needed_at (shaped (Shape 12) unsigned_of) (Shape 12) (field 2 ps)) (any_has _) (λ sequence _.
    then_has (λ c. AreComponents c.components) HasIds _ (needed_at common_of (Shape 13) (field 3 ps)) (field_has common_gives (Shape 13) 3 ps spelled) (λ common have.
    then_has IsShortId HasIds _ (needed_at (identifier (Shape 15)) (Shape 15) (field 5 ps)) (field_has (id_gives 15) (Shape 15) 5 ps spelled) (λ id is.
    record { id = is; components = have })))

pairs_have : (ps : List Pair) → AreSpelledPairs ps → IfOk (manifest_in ps) HasIds
pairs_have ps spelled = by_version (is_version (field 1 ps)) where
  by_version : (t : Bool) → IfOk (cond t (versioned_in ps) (Err (Shape 3))) HasIds
  by_version false = tt
  by_version true = versioned_has ps spelled

manifest_gives : Gives manifest_of HasIds
unfolding manifest_of
manifest_gives = map_gives HasIds (Shape 3) manifest_in pairs_have

-- ---- the envelope

-- its blocks are bytes, and its manifest has these fields
pub record HasFields (e : Envelope) : Type 0 where
  pub blocks : AllByRecursion IsBytes e.blocks
  pub ids : HasIds e.manifest

envelope_has : (ps : List Pair) → AreSpelledPairs ps → IfOk (envelope_in ps) HasFields
envelope_has ps spelled =
    then_has (λ w. AllByRecursion IsBytes w.blocks) HasFields _ (needed_at wrapper_of (Shape 2) (field 2 ps)) (field_has wrapper_gives (Shape 2) 2 ps spelled) (λ wrapper blocks.
    then_has HasIds HasFields _ (needed_at (wrapped (Shape 3) manifest_of) (Shape 3) (field 3 ps)) (field_has (wrapped_gives manifest_gives (Shape 3)) (Shape 3) 3 ps spelled) (λ manifest ids.
    then_has (λ _. Unit {0}) HasFields _ (needed_at (shaped (Shape 3) bytes_of) (Shape 3) (field 3 ps)) (any_has _) (λ manifest_bytes _.
    record { blocks = blocks; ids = ids })))

envelope_has_fields : (x : Item) → IsSpelled x → IfOk (envelope_of x) HasFields
unfolding envelope_of
envelope_has_fields x s = by_layer (out-Item x) refl where
  by_tag : (n : ℕ) (y : Item) → out-Item x ≡ Item-F.Tag n y → (t : Bool) → IfOk (in_map (Shape 0) envelope_in (cond t y x)) HasFields
  by_tag n y at false = (map_gives HasFields (Shape 0) envelope_in envelope_has).each x s
  by_tag n y at true = (map_gives HasFields (Shape 0) envelope_in envelope_has).each y (content_spelled x y n s at)

  by_layer : (l : Item-F Item Pair) → out-Item x ≡ l → IfOk (in_map (Shape 0) envelope_in (content_by x l)) HasFields
  by_layer (Item-F.Tag n y) at = by_tag n y at (n == 107)
  by_layer _ at = (map_gives HasFields (Shape 0) envelope_in envelope_has).each x s

-- an envelope that bytes are has such fields
pub envelope_fields : (e : Envelope) (bytes : List ℕ) → EnvelopeIs e bytes → HasFields e
envelope_fields e bytes is =
    value_has HasFields (envelope_of is.item) e (envelope_has_fields is.item (record { proper = is.spelled.proper; ranges = is.spelled.ranges; spelled = refl })) is.is
