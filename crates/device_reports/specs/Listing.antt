-- The listing of what a device keeps.
use Rattle.std.specs.Prelude.{ℕ, Bool, true, false, List, [], ◌∷◌, ◌++◌, length, codes, decimal}
use Rattle.std.specs.List.{flat_map}
use Rattle.sha2.specs.Sha256.{sha256}
use Rattle.hex.specs.Hex.{encode_lower}
use Rattle.device_state.specs.declared.rows.ComponentRow.{ComponentRow}
use Rattle.device_state.specs.declared.rows.ManifestRow.{ManifestRow}
use Rattle.device_state.specs.declared.heads.PartHead.{PartHead}
use Rattle.device_state.specs.declared.heads.RowHead.{RowHead}
use Rattle.device_state.specs.State.{State}
use Rattle.device_reports.specs.Images.{stored}
use Rattle.device_reports.specs.Lines.{line}

-- whether a manifest is installed, as a word
abbrev pub presence : Bool → List ℕ
presence true = codes "present"
presence false = codes "removed"

-- the identifier of a manifest, its sequence number, and whether it is installed
abbrev pub manifest_line : List ℕ → ℕ → Bool → List ℕ
manifest_line id sequence present = line (encode_lower id) (decimal sequence ∷ presence present ∷ [])

-- two spaces, the identifier of a component, how many bytes its image has, and their SHA-256
abbrev pub part_line : List ℕ → ℕ → List ℕ → List ℕ
part_line id size image = codes "  " ++ line (encode_lower id) (decimal size ∷ encode_lower (sha256 image) ∷ [])

-- the line of a component
abbrev pub component_line : ComponentRow → List ℕ
component_line c = part_line c.id (length c.bytes) c.bytes

-- the line of a manifest, and behind it those of its components
abbrev pub manifest_lines : ManifestRow → List ℕ
manifest_lines row = manifest_line row.id row.sequence row.present ++ flat_map component_line row.components

-- The lines of all manifests. A state has them in ascending order of their identifiers, and so it has the components of each.
abbrev pub listing_of : State → List ℕ
listing_of s = flat_map manifest_lines s.rows

-- ---- the same from the rows without images, and the images by their identifiers

-- a component's line
abbrev pub part_of : List ManifestRow → PartHead → List ℕ
part_of rows part = part_line part.id part.length (stored rows part.id)

-- a manifest's lines
abbrev pub head_of : List ManifestRow → RowHead → List ℕ
head_of rows head = manifest_line head.id head.sequence head.present ++ flat_map (part_of rows) head.components

-- those of all
abbrev pub heads_of : List ManifestRow → List RowHead → List ℕ
heads_of rows heads = flat_map (head_of rows) heads
