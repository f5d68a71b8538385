-- A state as changes: each row by itself, the first with the anchors.
use Rattle.std.specs.Prelude.{◌≡◌, ℕ, List, [], ◌∷◌, Option, None, IfSome}
use Rattle.trust_anchors.specs.declared.anchors.Anchors.{Anchors}
use Rattle.device_config.specs.declared.config.Config.{Config}
use Rattle.device_state.specs.declared.change.Change.{Change}
use Rattle.device_state.specs.declared.rows.ManifestRow.{ManifestRow}
use Rattle.device_state.specs.State.{new_state, folded, with_anchors}
use Rattle.device_state.specs.Valid.{AreFew}
use Rattle.device_image.specs.Stands.{Leads}

-- a change for each of the rows; the anchors stand in the first
abbrev pub row_changes : ℕ → Option Anchors → List ManifestRow → List Change
row_changes leaf anchors [] = []
row_changes leaf anchors (row ∷ rows) = record { leaf = leaf; rows = row ∷ []; anchors = anchors } ∷ row_changes leaf None rows

-- from each configuration the bodies lead to what the changes make of a new device
abbrev pub LeadFor : List Change → List (List ℕ) → Type 0
LeadFor changes bodies = (config : Config) → Leads config bodies (folded changes (new_state config))

-- set in the head they make the configuration, there are none where the head has its anchors already, and they may be written
pub record AnchorsFor (head becomes : Config) (anchors : Option Anchors) : Type 0 where
  pub same : with_anchors anchors head ≡ becomes
  pub none : becomes.anchors ≡ head.anchors → anchors ≡ None
  pub few : AreFew becomes.anchors → IfSome anchors AreFew
