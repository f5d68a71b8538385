use Rattle.std.proofs.Common.{◌≡◌, take}
use Rattle.device_state.specs.Heads.{heads}
use Rattle.component_store.proofs.log_store.heads_of.Given as goal

abbrev pub invariant-loop-row : goal.invariant-loop-row
invariant-loop-row l = l.all ≡ heads (take l.row-index l.rows)
