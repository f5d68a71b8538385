use Rattle.std.proofs.Common.{◌≡◌, map, take}
use Rattle.std.specs.Prelude.{sum}
use Rattle.device_state.specs.State as State
use Rattle.device_state.specs.State.{capped}
use Rattle.device_state.proofs.weight.rows_weight.Given as goal

abbrev pub invariant-loop-row : goal.invariant-loop-row
invariant-loop-row l = l.weight ≡ capped (sum (map State.row_weight (take l.row-index l.rows)))
