-- What a device keeps, what a change makes of it, and what it weighs.
use Rattle.std.specs.Prelude.{ℕ, ◌+◌, ◌-◌, ◌^◌, min, List, [], ◌∷◌, length, map, sum, Option, Some, None, if◌then◌else◌}
use Rattle.trust_anchors.specs.declared.anchors.Anchors.{Anchors}
use Rattle.device_config.specs.declared.config.Config.{Config}
use Rattle.device_state.specs.declared.rows.ComponentRow.{ComponentRow}
use Rattle.device_state.specs.declared.rows.ManifestRow.{ManifestRow}
use Rattle.device_state.specs.declared.change.Change.{Change}
use Rattle.device_state.specs.Places.{put_by}
use Rattle.cbor_core.specs.Spelling.{bytes_below}

-- The configuration with the anchors of the present, how many leaves of the key are used, and a row for each manifest. Rows stand in
-- ascending order of the bytes of their identifiers, and so do the components of each, so that equal states are equal values.
pub record State : Type 0 where
  pub config : Config
  pub leaf : ℕ
  pub rows : List ManifestRow

-- ---- a change

-- a component put where it belongs: before the first whose identifier is not below its own
abbrev pub put_component : ComponentRow → List ComponentRow → List ComponentRow
put_component c [] = c ∷ []
put_component c (d ∷ ds) = if bytes_below d.id c.id then d ∷ put_component c ds else c ∷ d ∷ ds

-- components in ascending order; one that stands twice still does
abbrev pub in_order : List ComponentRow → List ComponentRow
in_order [] = []
in_order (c ∷ cs) = put_component c (in_order cs)

-- a row with its components in order
abbrev pub ordered : ManifestRow → ManifestRow
ordered row = record row { components = in_order row.components }

-- a row in the place of that of its identifier, or where it belongs if there is none
abbrev pub put_row : ManifestRow → List ManifestRow → List ManifestRow
put_row = put_by (λ row. row.id)

-- each of the rows put where it belongs, one after the other
abbrev pub put_rows : List ManifestRow → List ManifestRow → List ManifestRow
put_rows [] rows = rows
put_rows (row ∷ more) rows = put_rows more (put_row (ordered row) rows)

-- the anchors, where they change
abbrev pub with_anchors : Option Anchors → Config → Config
with_anchors None config = config
with_anchors (Some anchors) config = record config { anchors = anchors }

-- the state behind a change: it sets the leaf, the anchors where it has some, and for each of its rows the manifest and exactly its components
abbrev pub changed : Change → State → State
changed change s = record { config = with_anchors change.anchors s.config; leaf = change.leaf; rows = put_rows change.rows s.rows }

-- the state behind changes, one after the other
abbrev pub folded : List Change → State → State
folded [] s = s
folded (change ∷ changes) s = folded changes (changed change s)

-- the state with one leaf more used
abbrev pub next : State → State
next s = record s { leaf = s.leaf + 1 }

-- the state of a device that was just given this configuration
abbrev pub new_state : Config → State
new_state config = record { config = config; leaf = 0; rows = [] }

-- ---- the weight

-- 256 bytes, its identifier and its image
abbrev pub component_weight : ComponentRow → ℕ
component_weight c = 256 + length c.id + length c.bytes

-- 256 bytes, its identifier and its components
abbrev pub row_weight : ManifestRow → ℕ
row_weight row = 256 + length row.id + sum (map component_weight row.components)

-- all rows
abbrev pub rows_weight : List ManifestRow → ℕ
rows_weight rows = sum (map row_weight rows)

-- a number, and 2^64 - 1 of one that is greater
abbrev pub capped : ℕ → ℕ
capped n = min n (2 ^ 64 - 1)

-- what a device keeps weighs so much
abbrev pub weight : State → ℕ
weight s = rows_weight s.rows
