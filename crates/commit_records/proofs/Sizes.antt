-- How long a change is: rows take less than they weigh, and anchors less than 2,400 bytes.
use Rattle.std.proofs.Common.{◌≡◌, ℕ, ◌+◌, ◌*◌, ◌≤◌, List, [], ◌∷◌, length, map, Option, Some, None, Result, Ok, Err, sym, ap, subst, ◌∙◌, arith}
use Rattle.std.specs.List.{AllByRecursion}
use Rattle.std.specs.Prelude.{sum, IfSome, IfOk}
use Rattle.std.proofs.lemmas.List.Sums.{sum_by-cons}
use Rattle.base_types.specs.declared.memory.NoMemory.{NoMemory}
use Rattle.cbor_core.specs.declared.item.Item.{Item}
use Rattle.cbor_core.specs.declared.item.Item.TheVariants as i
use Rattle.cbor_core.specs.Spelling.{Spells, spelling, spellings}
use Rattle.cbor_core.proofs.Public.Sizes.{number_size, negative_size, string_size, array_size, more_members}
use Rattle.cbor_core.proofs.Public.Small.{small_number, small_array, truth_size, null_size}
use Rattle.suit_commands.specs.declared.digest.Digest.{Digest}
use Rattle.suit_commands.specs.declared.digest.DigestAlgorithm.{DigestAlgorithm}
use Rattle.suit_commands.specs.declared.digest.DigestAlgorithm.TheVariants.{Sha256, Sha384, Sha512}
use Rattle.suit_commands.specs.Digests.{digest_item, digest_members, number_of, size_of, IsProperDigest}
use Rattle.trust_anchors.specs.declared.anchors.Anchors.{Anchors}
use Rattle.trust_anchors.specs.Anchors.{written_anchors}
use Rattle.trust_anchors.proofs.Public.Written.{anchors_size}
use Rattle.device_state.specs.declared.rows.ComponentRow.{ComponentRow}
use Rattle.device_state.specs.declared.rows.ManifestRow.{ManifestRow}
use Rattle.device_state.specs.declared.change.Change.{Change}
use Rattle.device_state.specs.State.{component_weight, row_weight, rows_weight}
use Rattle.commit_records.specs.Rows.{null_or, component_members, component_item, row_members, row_item}
use Rattle.commit_records.specs.Changes.{AnchorsOrNull, HasDigest, HaveDigests, IsProperChange, written_change, anchors_room, rows_room, change_room}

-- ---- anchors

anchors_or_null_size : (o : Option Anchors) → AnchorsOrNull (null_or written_anchors o) o → length (spelling (null_or written_anchors o)) ≤ anchors_room o + 1
anchors_or_null_size None is = omega (arith, null_size)
anchors_or_null_size (Some v) is = omega (arith, anchors_size v (written_anchors v) is)

-- ---- manifests and their components

hash_size : (algorithm : DigestAlgorithm) → size_of algorithm ≤ 64
hash_size Sha256 = omega arith
hash_size Sha384 = omega arith
hash_size Sha512 = omega arith

digest_size : (o : Option Digest) → IfSome o IsProperDigest → length (spelling (null_or digest_item o)) ≤ 91
digest_size None is = omega (arith, null_size)
digest_size (Some d) is = omega (
  arith,
  array_size (digest_members d),
  more_members (i.Negative (number_of d.algorithm)) (i.Bytes d.bytes ∷ []),
  more_members (i.Bytes d.bytes) [],
  negative_size (number_of d.algorithm),
  string_size d.bytes,
  is.1,
  hash_size d.algorithm,
)

component_size : (c : ComponentRow) → HasDigest c → length (spelling (component_item c)) ≤ component_weight c
component_size c has = omega (
  arith,
  array_size (component_members c),
  more_members (i.Bytes c.id) (null_or digest_item c.digest ∷ i.Bytes c.bytes ∷ []),
  more_members (null_or digest_item c.digest) (i.Bytes c.bytes ∷ []),
  more_members (i.Bytes c.bytes) [],
  string_size c.id,
  digest_size c.digest has,
  string_size c.bytes,
)

components_size : (cs : List ComponentRow) → AllByRecursion HasDigest cs → length (spellings (map component_item cs)) ≤ sum (map component_weight cs)
components_size [] all = omega arith
components_size (c ∷ cs) all =
    let weight : sum (map component_weight (c ∷ cs)) ≡ component_weight c + sum (map component_weight cs) = sum_by-cons (λ n. n) (component_weight c) (map component_weight cs) in
    rw (more_members (component_item c) (map component_item cs)) (omega (arith, component_size c all.0, components_size cs all.1, weight))

row_size : (row : ManifestRow) → HaveDigests row → length (spelling (row_item component_item row)) + 200 ≤ row_weight row
row_size row have = omega (
  arith,
  array_size (row_members component_item row),
  more_members (i.Bytes row.id) (i.Unsigned row.sequence ∷ i.Truth row.present ∷ i.Array (map component_item row.components) ∷ []),
  more_members (i.Unsigned row.sequence) (i.Truth row.present ∷ i.Array (map component_item row.components) ∷ []),
  more_members (i.Truth row.present) (i.Array (map component_item row.components) ∷ []),
  more_members (i.Array (map component_item row.components)) [],
  string_size row.id,
  number_size row.sequence,
  truth_size row.present,
  array_size (map component_item row.components),
  components_size row.components have,
)

each_size : (rows : List ManifestRow) → AllByRecursion HaveDigests rows → length (spellings (map (row_item component_item) rows)) + 200 * length rows ≤ rows_weight rows
each_size [] all = omega arith
each_size (row ∷ rows) all =
    let weight : rows_weight (row ∷ rows) ≡ row_weight row + rows_weight rows = sum_by-cons (λ n. n) (row_weight row) (map row_weight rows) in
    rw (more_members (row_item component_item row) (map (row_item component_item) rows)) (omega (arith, row_size row all.0, each_size rows all.1, weight))

rows_size : (rows : List ManifestRow) → AllByRecursion HaveDigests rows → length (spelling (i.Array (map (row_item component_item) rows))) + 17 ≤ rows_room rows
rows_size [] all = omega (arith, small_array [] (omega arith))
rows_size (row ∷ rows) all = omega (arith, array_size (map (row_item component_item) (row ∷ rows)), each_size (row ∷ rows) all)

-- ---- the change

parts_size : (change : Change) → length (spelling (written_change change)) ≤ 11 + length (spelling (i.Array (map (row_item component_item) change.rows))) + length (spelling (null_or written_anchors change.anchors))
parts_size change =
    let rows = i.Array (map (row_item component_item) change.rows) in
    let anchors = null_or written_anchors change.anchors in
    omega (
      arith,
      small_array (i.Unsigned 2 ∷ i.Unsigned change.leaf ∷ rows ∷ anchors ∷ []) (omega arith),
      more_members (i.Unsigned 2) (i.Unsigned change.leaf ∷ rows ∷ anchors ∷ []),
      more_members (i.Unsigned change.leaf) (rows ∷ anchors ∷ []),
      more_members rows (anchors ∷ []),
      more_members anchors [],
      small_number 2 (omega arith),
      number_size change.leaf,
    )

change_size : (change : Change) → IsProperChange change → AnchorsOrNull (null_or written_anchors change.anchors) change.anchors → length (spelling (written_change change)) + 5 ≤ change_room change
change_size change proper anchors = omega (arith, parts_size change, rows_size change.rows proper.digests, anchors_or_null_size change.anchors anchors)

leaf_size : (change : Change) → change.rows ≡ [] → change.anchors ≡ None → length (spelling (written_change change)) ≤ 13
leaf_size change no_rows no_anchors =
    let rows : length (spelling (i.Array (map (row_item component_item) change.rows))) ≡ 1 =
    ap (λ (rs : List ManifestRow). length (spelling (i.Array (map (row_item component_item) rs)))) no_rows ∙ small_array [] (omega arith) in
    let anchors : length (spelling (null_or written_anchors change.anchors)) ≡ 1 = ap (λ (o : Option Anchors). length (spelling (null_or written_anchors o))) no_anchors ∙ null_size in
    omega (arith, parts_size change)

pub size : (change : Change) (r : Result (List ℕ) NoMemory) → IsProperChange change → AnchorsOrNull (null_or written_anchors change.anchors) change.anchors
    → IfOk r (λ bytes. Spells (written_change change) bytes) → IfOk r (λ bytes. length bytes + 5 ≤ change_room change)
size change (Ok bytes) proper anchors spelled = subst (λ (l : List ℕ). length l + 5 ≤ change_room change) (sym spelled.spelled) (change_size change proper anchors)
size change (Err e) proper anchors spelled = tt

pub leaf_alone : (change : Change) (r : Result (List ℕ) NoMemory) → IfOk r (λ bytes. Spells (written_change change) bytes) → change.rows ≡ [] → change.anchors ≡ None → IfOk r (λ bytes. length bytes ≤ 13)
leaf_alone change (Ok bytes) spelled no_rows no_anchors = subst (λ (l : List ℕ). length l ≤ 13) (sym spelled.spelled) (leaf_size change no_rows no_anchors)
leaf_alone change (Err e) spelled no_rows no_anchors = tt
