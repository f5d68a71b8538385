use Rattle.std.proofs.Common.{◌-◌}
use Rattle.cbor_span.proofs.Remaining.{Rest}
use Rattle.cbor_span.proofs.fields.behind_pairs.Given as goal

abbrev pub invariant-loop : goal.invariant-loop
invariant-loop l = Rest l.count l.bytes (l.count - l.counter) l.rest
