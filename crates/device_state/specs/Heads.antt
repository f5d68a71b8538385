-- Rows without the bytes of their components.
use Rattle.std.specs.Prelude.{ℕ, ◌+◌, length, map, sum, List}
use Rattle.device_state.specs.declared.rows.ComponentRow.{ComponentRow}
use Rattle.device_state.specs.declared.rows.ManifestRow.{ManifestRow}
use Rattle.device_state.specs.declared.heads.PartHead.{PartHead}
use Rattle.device_state.specs.declared.heads.RowHead.{RowHead}

-- a component with the length of its image in place of it
abbrev pub part_head : ComponentRow → PartHead
part_head c = record { id = c.id; length = length c.bytes; digest = c.digest }

-- a manifest with such components
abbrev pub row_head : ManifestRow → RowHead
row_head row = record { id = row.id; sequence = row.sequence; present = row.present; components = map part_head row.components }

-- all rows
abbrev pub heads : List ManifestRow → List RowHead
heads rows = map row_head rows

-- ---- the weight, as that of the rows

abbrev pub part_weight : PartHead → ℕ
part_weight p = 256 + length p.id + p.length

abbrev pub head_weight : RowHead → ℕ
head_weight head = 256 + length head.id + sum (map part_weight head.components)

abbrev pub heads_weight : List RowHead → ℕ
heads_weight heads = sum (map head_weight heads)
