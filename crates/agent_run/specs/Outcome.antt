-- How a run of a device ends.
use Rattle.std.specs.Prelude.{◌≡◌, ◌⊎◌, List, ℕ}
use Rattle.base_types.specs.Causes.{CausedBy}
use Rattle.base_types.specs.declared.limits.TheConstants.{FRAME_IN_LIMIT, INPUT_LIMIT}
use Rattle.board_core.specs.Contents.{View, Silent}
use Rattle.frames.specs.Frames.{Frame}
use Rattle.frames.specs.Reading.{End, Events}
use Rattle.turn_loop.specs.declared.stop.Stop.{Stop}
use Rattle.turn_loop.specs.Outcome.{Ran, Answered}
use Rattle.turn_loop.specs.Stops.{stop_of}
use Rattle.device_state.specs.State.{State}
use Rattle.agent_core.specs.Turns.{Turn, StandsFor, started}
use Rattle.agent_run.specs.Statuses.{status_of}
use Rattle.agent_run.specs.declared.status.Status.{Status}
use Rattle.agent_run.specs.declared.status.Status.TheVariants.{BadImage, ReadFault, SendFault, DiskFault, NoMemory}

-- frames were taken and answered, by an agent that began in this state with no session
pub record RanFrom (s : State) (status : Status) (old new : View) : Type 0 where
  pub stop : Stop
  pub status_is : status ≡ status_of stop
  pub ran : Ran Turn StandsFor (started s) FRAME_IN_LIMIT INPUT_LIMIT stop old new

-- no frame was taken: nothing was taken or sent, and the image is as a load gave it
pub record NotStarted (fault : Type 0) (old new : View) : Type 0 where
  pub blamed : fault
  pub silent : Silent old new
  pub bytes : new.now.disk.bytes ≡ old.now.disk.bytes

-- a run over an image that stands for a state: it ran, or the disk failed or memory ran out before its first frame
abbrev pub Mounted : State → Status → View → View → Type 0
Mounted s status old new = RanFrom s status old new ⊎ NotStarted ((status ≡ DiskFault) ⊎ (status ≡ NoMemory)) old new

-- a run over an image that stands for none
abbrev pub Unmounted : Status → View → View → Type 0
Unmounted status old new = NotStarted ((status ≡ BadImage) ⊎ ((status ≡ DiskFault) ⊎ (status ≡ NoMemory))) old new

-- the end of the input decides the status, and all frames of the input are answered
pub record RanToEnd (s : State) (status : Status) (end : End) (frames : List Frame) (old new : View) : Type 0 where
  pub status_is : status ≡ status_of (stop_of end)
  pub answered : Answered Turn StandsFor (started s) frames old.now.stream.sent new

-- each count rose where the status blames it, and stands else
pub record RunCause (status : Status) (old new : View) : Type 0 where
  pub read : CausedBy (status ≡ ReadFault) old.faults.read new.faults.read
  pub send : CausedBy (status ≡ SendFault) old.faults.send new.faults.send
  pub disk : CausedBy (status ≡ DiskFault) old.faults.disk new.faults.disk
  pub extent : new.extent ≡ old.extent
