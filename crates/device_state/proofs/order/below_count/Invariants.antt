use Rattle.std.proofs.Common.{◌≡◌, ◌+◌, drop}
use Rattle.std.specs.List.{prefix_len}
use Rattle.cbor_core.specs.Spelling.{bytes_below}
use Rattle.device_state.proofs.order.below_count.Given as goal

abbrev pub invariant-loop-count : goal.invariant-loop-count
invariant-loop-count l = l.count + prefix_len (λ other. bytes_below other.id l.component.id) (drop l.count l.others) ≡ prefix_len (λ other. bytes_below other.id l.component.id) l.others
