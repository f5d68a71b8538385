-- The numbers of the statuses.
use Rattle.std.specs.Prelude.{ℕ}
use Rattle.teep_tool.specs.declared.status.Status.{Status}
use Rattle.teep_tool.specs.declared.status.Status.TheVariants.{Done, Refused, Usage, HostFault, LongFile, NoMemory}

-- the number that the process ends with
abbrev pub number_of : Status → ℕ
number_of Done = 0
number_of Refused = 1
number_of Usage = 2
number_of HostFault = 3
number_of LongFile = 4
number_of NoMemory = 9
