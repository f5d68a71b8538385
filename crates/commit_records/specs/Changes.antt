-- Which bytes are a change.
use Rattle.std.specs.Prelude.{◌≡◌, ◌+◌, ℕ, Bool, true, List, [], ◌∷◌, map, Option, Some, None, IfSome, Result, Ok, Err}
use Rattle.std.specs.List.{AllByRecursion}
use Rattle.cbor_core.specs.declared.item.Item.{Item, out-Item}
use Rattle.cbor_core.specs.declared.item.Item.TheVariants as i
use Rattle.cbor_core.specs.Spelling.{Spells}
use Rattle.cbor_core.specs.Views.{array_of, unsigned_of, is_null}
use Rattle.cbor_fields.specs.Views.{list_of}
use Rattle.suit_commands.specs.Digests.{IsProperDigest}
use Rattle.trust_anchors.specs.declared.anchors.Anchors.{Anchors}
use Rattle.trust_anchors.specs.Anchors.{AnchorsIs, written_anchors}
use Rattle.device_state.specs.declared.rows.ComponentRow.{ComponentRow}
use Rattle.device_state.specs.declared.rows.ManifestRow.{ManifestRow}
use Rattle.device_state.specs.declared.change.Change.{Change}
use Rattle.device_state.specs.State.{rows_weight}
use Rattle.device_state.specs.Valid.{AreFew}
use Rattle.commit_records.specs.Rows.{plain_of, component_of, component_item, row_of, row_item, null_or}

-- null where there are no anchors, and else the item of these
abbrev pub AnchorsOrNull : Item → Option Anchors → Type 0
AnchorsOrNull x None = is_null (out-Item x) ≡ true
AnchorsOrNull x (Some anchors) = AnchorsIs anchors x

-- the parts of version 1: it changes no anchors
pub record IsFirst (version leaf rows : Item) (change : Change) : Type 0 where
  pub version_is : unsigned_of version ≡ Some 1
  pub leaf_is : unsigned_of leaf ≡ Some change.leaf
  pub rows_are : list_of (row_of plain_of) rows ≡ Some change.rows
  pub anchors_are : change.anchors ≡ None

-- the parts of version 2
pub record IsSecond (version leaf rows anchors : Item) (change : Change) : Type 0 where
  pub version_is : unsigned_of version ≡ Some 2
  pub leaf_is : unsigned_of leaf ≡ Some change.leaf
  pub rows_are : list_of (row_of component_of) rows ≡ Some change.rows
  pub anchors_are : AnchorsOrNull anchors change.anchors

-- [1, leaf, rows], or [2, leaf, rows, anchors]
abbrev pub PartsAre : List Item → Change → Type 0
PartsAre (version ∷ leaf ∷ rows ∷ []) change = IsFirst version leaf rows change
PartsAre (version ∷ leaf ∷ rows ∷ anchors ∷ []) change = IsSecond version leaf rows anchors change
PartsAre _ change = ⊥

-- the item is an array of these parts
abbrev pub IsChangeItem : Item → Change → Type 0
IsChangeItem x change = (parts : List Item) × (array_of x ≡ Some parts) × PartsAre parts change

-- the bytes spell such an item (RFC 8949, section 4.2.1)
pub record ChangeIs (change : Change) (bytes : List ℕ) : Type 0 where
  pub item : Item
  pub spelled : Spells item bytes
  pub change_is : IsChangeItem item change

-- ---- what is written

-- each digest of a component is one
abbrev pub HasDigest : ComponentRow → Type 0
HasDigest c = IfSome c.digest IsProperDigest

-- the same of each component
abbrev pub HaveDigests : ManifestRow → Type 0
HaveDigests row = AllByRecursion HasDigest row.components

-- what a change must be to be written: its digests are digests, and its anchors are few
pub record IsProperChange (change : Change) : Type 0 where
  pub digests : AllByRecursion HaveDigests change.rows
  pub anchors : IfSome change.anchors AreFew

-- [2, leaf, rows, anchors]
abbrev pub written_change : Change → Item
written_change change =
    i.Array (i.Unsigned 2 ∷ i.Unsigned change.leaf ∷ i.Array (map (row_item component_item) change.rows) ∷ null_or written_anchors change.anchors ∷ [])

-- ---- how long it is

-- anchors take 2,400 bytes at most
abbrev pub anchors_room : Option Anchors → ℕ
anchors_room None = 0
anchors_room (Some anchors) = 2400

-- a leaf alone takes 32, and rows no more than they weigh
abbrev pub rows_room : List ManifestRow → ℕ
rows_room [] = 32
rows_room (row ∷ rows) = rows_weight (row ∷ rows)

-- a change takes so many bytes at most, with five more
abbrev pub change_room : Change → ℕ
change_room change = anchors_room change.anchors + rows_room change.rows
