-- The statuses of a run: their numbers, and that of each stop.
use Rattle.std.specs.Prelude.{ℕ}
use Rattle.turn_loop.specs.declared.stop.Stop.{Stop}
use Rattle.turn_loop.specs.declared.stop.Stop.TheVariants as stops
use Rattle.agent_run.specs.declared.status.Status.{Status}
use Rattle.agent_run.specs.declared.status.Status.TheVariants.{Done, Usage, BadImage, ReadFault, SendFault, DiskFault, CutFrame, LongFrame, NoMemory, InputSpent}

-- the number that a program ends with
abbrev pub number_of : Status → ℕ
number_of Done = 0
number_of Usage = 2
number_of BadImage = 3
number_of ReadFault = 4
number_of SendFault = 5
number_of DiskFault = 6
number_of CutFrame = 7
number_of LongFrame = 8
number_of NoMemory = 9
number_of InputSpent = 10

-- the status of a run over frames that stopped so
abbrev pub status_of : Stop → Status
status_of stops.Whole = Done
status_of stops.Cut = CutFrame
status_of stops.Long = LongFrame
status_of stops.Spent = InputSpent
status_of stops.ReadFault = ReadFault
status_of stops.SendFault = SendFault
status_of stops.DiskFault = DiskFault
status_of stops.NoMemory = NoMemory

-- a status of a run whose image was mounted
abbrev pub IsEnding : Status → Type 0
IsEnding Usage = ⊥
IsEnding BadImage = ⊥
IsEnding Done = Unit {0}
IsEnding ReadFault = Unit {0}
IsEnding SendFault = Unit {0}
IsEnding DiskFault = Unit {0}
IsEnding CutFrame = Unit {0}
IsEnding LongFrame = Unit {0}
IsEnding NoMemory = Unit {0}
IsEnding InputSpent = Unit {0}
