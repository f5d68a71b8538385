use Rattle.std.proofs.Common.{◌≡◌, map, take}
use Rattle.std.specs.Prelude.{sum}
use Rattle.device_state.specs.Heads as Heads
use Rattle.device_state.specs.State.{capped}
use Rattle.device_state.proofs.weight.heads_weight.Given as goal

abbrev pub invariant-loop-head : goal.invariant-loop-head
invariant-loop-head l = l.weight ≡ capped (sum (map Heads.head_weight (take l.head-index l.heads)))
