-- What holds of images and the states for which they stand.
use Rattle.std.specs.Prelude.{◌≡◌, ◌++◌, ◌∷◌, [], ◌≤◌, ℕ, List}
use Rattle.device_config.specs.declared.config.Config.{Config}
use Rattle.device_config.specs.Image.{IsNewImage}
use Rattle.device_state.specs.declared.change.Change.{Change}
use Rattle.device_state.specs.State.{State, new_state, changed}
use Rattle.commit_records.specs.Changes.{ChangeIs}
use Rattle.device_image.specs.Stands.{Leads, Stands}

-- an image stands for at most one state
abbrev pub OneState : Type 0
OneState = (image : List ℕ) (a b : State) → Stands image a → Stands image b → a ≡ b

-- a new image stands for the state of a device that was just given its configuration
abbrev pub NewImagesStand : Type 0
NewImagesStand = (config : Config) (image : List ℕ) → IsNewImage config image → Stands image (new_state config)

-- one body more, which is a change whose leaf is not below, leads to what that makes of the state
abbrev pub MoreLeads : Type 0
MoreLeads = (config : Config) (bodies : List (List ℕ)) (s : State) (change : Change) (body : List ℕ)
    → Leads config bodies s → ChangeIs change body → s.leaf ≤ change.leaf → Leads config (bodies ++ body ∷ []) (changed change s)
