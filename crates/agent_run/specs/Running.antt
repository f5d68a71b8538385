-- What a run of a store leaves, before what the mount of it did is added.
use Rattle.std.specs.Prelude.{◌≡◌, ◌⊎◌}
use Rattle.board_core.specs.Contents.{View, Silent}
use Rattle.board_core.specs.Moments.{Passes, NoMoment}
use Rattle.device_state.specs.State.{State}
use Rattle.agent_run.specs.Outcome.{RanFrom}
use Rattle.agent_run.specs.declared.status.Status.{Status}
use Rattle.agent_run.specs.declared.status.Status.TheVariants.{NoMemory}

-- there was no memory for the device's key, and the board was left alone
pub record NotGrown (status : Status) (old new : View) : Type 0 where
  pub blamed : status ≡ NoMemory
  pub silent : Silent old new
  pub bytes : new.now.disk.bytes ≡ old.now.disk.bytes
  pub moments : Passes old new NoMoment

-- frames were answered, or the key was not grown
abbrev pub StoreRan : State → Status → View → View → Type 0
StoreRan s status old new = RanFrom s status old new ⊎ NotGrown status old new
