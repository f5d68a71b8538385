-- What is written for a change is proper, and is that change.
use Rattle.std.proofs.Common.{◌≡◌, ℕ, suc, List, [], ◌∷◌, map, Option, Some, None, Result, Ok, Err, refl}
use Rattle.std.specs.Prelude.{IfOk}
use Rattle.std.specs.List.{AllByRecursion}
use Rattle.base_types.specs.declared.memory.NoMemory.{NoMemory}
use Rattle.cbor_core.specs.declared.item.Item.{Item}
use Rattle.cbor_core.specs.declared.item.Item.TheVariants as i
use Rattle.cbor_core.specs.Spelling.{Spells, IsProper, IsProperWithin}
use Rattle.cbor_core.proofs.Public.Proper.{number_proper, negative_proper, string_proper, truth_proper, null_proper, array_proper}
use Rattle.suit_commands.specs.declared.digest.Digest.{Digest}
use Rattle.suit_commands.specs.Digests.{digest_item, digest_members, number_of}
use Rattle.trust_anchors.specs.declared.anchors.Anchors.{Anchors}
use Rattle.trust_anchors.specs.Anchors.{written_anchors}
use Rattle.trust_anchors.proofs.Public.Written.{anchors_proper}
use Rattle.device_state.specs.declared.rows.ComponentRow.{ComponentRow}
use Rattle.device_state.specs.declared.rows.ManifestRow.{ManifestRow}
use Rattle.device_state.specs.declared.change.Change.{Change}
use Rattle.commit_records.specs.Rows.{null_or, component_members, component_item, row_members, row_item}
use Rattle.commit_records.specs.Changes.{AnchorsOrNull, ChangeIs, IsProperChange, written_change}
use Rattle.commit_records.proofs.Again.{array_again, rows_again}

-- ---- it is proper

digest_proper : (depth : ℕ) (o : Option Digest) → IsProperWithin (suc depth) (null_or digest_item o)
digest_proper depth None = null_proper (suc depth)
digest_proper depth (Some d) = array_proper depth (digest_members d) (negative_proper depth (number_of d.algorithm), (string_proper depth d.bytes, tt))

component_proper : (depth : ℕ) (c : ComponentRow) → IsProperWithin (suc (suc depth)) (component_item c)
component_proper depth c = array_proper (suc depth) (component_members c) (string_proper (suc depth) c.id, (digest_proper depth c.digest, (string_proper (suc depth) c.bytes, tt)))

components_proper : (depth : ℕ) (cs : List ComponentRow) → AllByRecursion (IsProperWithin (suc (suc depth))) (map component_item cs)
components_proper depth [] = tt
components_proper depth (c ∷ cs) = (component_proper depth c, components_proper depth cs)

row_proper : (depth : ℕ) (row : ManifestRow) → IsProperWithin (suc (suc (suc (suc depth)))) (row_item component_item row)
row_proper depth row =
    let inside : ℕ = suc (suc (suc depth)) in
    array_proper (suc (suc (suc depth))) (row_members component_item row) (
      string_proper inside row.id,
      (
        number_proper inside row.sequence,
        (truth_proper inside row.present, (array_proper (suc (suc depth)) (map component_item row.components) (components_proper depth row.components), tt)),
      ),
    )

rows_proper : (depth : ℕ) (rows : List ManifestRow) → AllByRecursion (IsProperWithin (suc (suc (suc (suc depth))))) (map (row_item component_item) rows)
rows_proper depth [] = tt
rows_proper depth (row ∷ rows) = (row_proper depth row, rows_proper depth rows)

anchors_or_null_proper : (depth : ℕ) (o : Option Anchors) → IsProperWithin (suc (suc depth)) (null_or written_anchors o)
anchors_or_null_proper depth None = null_proper (suc (suc depth))
anchors_or_null_proper depth (Some v) = anchors_proper depth v

abbrev parts_of : Change → List Item
parts_of change = i.Unsigned 2 ∷ i.Unsigned change.leaf ∷ i.Array (map (row_item component_item) change.rows) ∷ null_or written_anchors change.anchors ∷ []

pub change_proper : (change : Change) → IsProper (written_change change)
change_proper change = array_proper 15 (parts_of change) (
  number_proper 15 2,
  (
    number_proper 15 change.leaf,
    (array_proper 14 (map (row_item component_item) change.rows) (rows_proper 10 change.rows), (anchors_or_null_proper 13 change.anchors, tt)),
  ),
)

-- ---- it is read as this change

pub written_is : (change : Change) (bytes : List ℕ) → IsProperChange change → AnchorsOrNull (null_or written_anchors change.anchors) change.anchors → Spells (written_change change) bytes → ChangeIs change bytes
written_is change bytes proper anchors spelled = record {
  item = written_change change;
  spelled = spelled;
  change_is = (
    parts_of change,
    array_again (parts_of change),
    record {
      version_is = rw (i.outs-Unsigned) refl;
      leaf_is = rw (i.outs-Unsigned) refl;
      rows_are = rows_again change.rows proper.digests;
      anchors_are = anchors;
    },
  );
}

pub again : (change : Change) (r : Result (List ℕ) NoMemory) → IsProperChange change → AnchorsOrNull (null_or written_anchors change.anchors) change.anchors
    → IfOk r (λ bytes. Spells (written_change change) bytes) → IfOk r (ChangeIs change)
again change (Ok bytes) proper anchors spelled = written_is change bytes proper anchors spelled
again change (Err e) proper anchors spelled = tt
