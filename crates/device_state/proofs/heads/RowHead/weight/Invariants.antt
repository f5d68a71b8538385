use Rattle.std.proofs.Common.{◌≡◌, ◌+◌, length, map, take}
use Rattle.std.specs.Prelude.{sum}
use Rattle.device_state.specs.Heads as Heads
use Rattle.device_state.specs.State.{capped}
use Rattle.device_state.proofs.heads.RowHead.weight.Given as goal

abbrev pub invariant-loop-component : goal.invariant-loop-component
invariant-loop-component l = l.weight ≡ capped (256 + length l.self.id + sum (map Heads.part_weight (take l.component-index l.component-items)))
