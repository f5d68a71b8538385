-- Which state of a device an image stands for.
use Rattle.std.specs.Prelude.{◌≡◌, ◌≤◌, ℕ, List, [], ◌∷◌}
use Rattle.std.specs.List.{AllZip}
use Rattle.journal_core.specs.Region.{RegionStands}
use Rattle.device_config.specs.declared.config.Config.{Config}
use Rattle.device_config.specs.Image.{IsImage, journal_region}
use Rattle.device_state.specs.declared.change.Change.{Change}
use Rattle.device_state.specs.State.{State, new_state, folded}
use Rattle.device_state.specs.Valid.{IsValid}
use Rattle.commit_records.specs.Changes.{ChangeIs}

-- the leaves of the changes do not fall, from this one on
abbrev pub NeverFall : ℕ → List Change → Type 0
NeverFall least [] = Unit {0}
NeverFall least (change ∷ changes) = (least ≤ change.leaf) × NeverFall change.leaf changes

-- the bodies are changes whose leaves do not fall, and these lead from a new device of this configuration to the state
pub record Leads (config : Config) (bodies : List (List ℕ)) (s : State) : Type 0 where
  pub changes : List Change
  pub are : AllZip ChangeIs changes bodies
  pub leaves : NeverFall 0 changes
  pub state_is : s ≡ folded changes (new_state config)

-- The head has a configuration, the region of that has bodies, these lead from there to the state, and a device may be in it.
pub record Stands (image : List ℕ) (s : State) : Type 0 where
  pub config : Config
  pub head : IsImage config image
  pub bodies : List (List ℕ)
  pub region : RegionStands (journal_region config.quota) image bodies
  pub leads : Leads config bodies s
  pub valid : IsValid s
