use Rattle.std.proofs.Common.{◌≡◌, drop}
use Rattle.wave_core.specs.Counting.{are_enough}
use Rattle.wave_core.proofs.reading.have_enough.Given as goal

abbrev pub invariant-loop-number : goal.invariant-loop-number
invariant-loop-number l = are_enough (drop l.number l.steps) (drop l.number l.counts) ≡ are_enough l.steps l.counts
