-- The counts of faults that a board keeps, as it tells them.
use Rattle.board_core.specs.Contents.{Faults}
use Rattle.board_core.specs.declared.fault_counts.FaultCounts.{FaultCounts}

-- nothing has failed
abbrev pub no_faults : Faults
no_faults = record { read = 0; send = 0; disk = 0 }

-- the three counts
abbrev pub faults_in : FaultCounts → Faults
faults_in counts = record { read = counts.read; send = counts.send; disk = counts.disk }
