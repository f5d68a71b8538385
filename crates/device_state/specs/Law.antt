-- What holds of changes and weights.
use Rattle.std.specs.Prelude.{◌≡◌, List, []}
use Rattle.std.specs.List.{AllByRecursion}
use Rattle.device_state.specs.declared.rows.ManifestRow.{ManifestRow}
use Rattle.device_state.specs.Places.{Ascend}
use Rattle.device_state.specs.State.{State, ordered, put_rows, changed, rows_weight}
use Rattle.device_state.specs.declared.change.Change.{Change}
use Rattle.device_state.specs.Heads.{heads, heads_weight}

-- the components of a row are in order
abbrev pub IsOrdered : ManifestRow → Type 0
IsOrdered row = ordered row ≡ row

-- the rows ascend, and the components of each are in order
pub record AreInOrder (rows : List ManifestRow) : Type 0 where
  pub ascend : Ascend (λ row. row.id) rows
  pub ordered : AllByRecursion IsOrdered rows

-- Each change leaves rows in order. Rows in order, put one by one into nothing, are these rows.
pub record ChangesKeepOrder : Type 0 where
  pub kept : (change : Change) (s : State) → AreInOrder s.rows → AreInOrder (changed change s).rows
  pub again : (rows : List ManifestRow) → AreInOrder rows → put_rows rows [] ≡ rows

-- rows without the bytes of their components weigh the same
abbrev pub HeadsWeighTheSame : Type 0
HeadsWeighTheSame = (rows : List ManifestRow) → heads_weight (heads rows) ≡ rows_weight rows
