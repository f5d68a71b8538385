use Rattle.std.proofs.Common.{◌-◌}
use Rattle.cbor_span.proofs.Remaining.{Left}
use Rattle.cbor_span.proofs.fields.seek.Given as goal

abbrev pub invariant-loop-index : goal.invariant-loop-index
invariant-loop-index l = Left l.label l.count l.bytes (l.count - l.index) l.rest
