use Rattle.std.proofs.Common.{arith}
use Rattle.cbor_span.proofs.Fronts.{spans, spanned, faults, faulted}
use Rattle.cbor_span.proofs.walk.span.Goals as goal

pub returns-clause-found : goal.returns-clause-found
returns-clause-found c n = (spans c.args.bytes.now c.front.result (λ i. omega (arith, c.type_inv.bytes i)) c.front.ensures n, spanned c.args.bytes.now c.front.result c.front.ensures n)

pub returns-clause-refused : goal.returns-clause-refused
returns-clause-refused c f = (faults c.args.bytes.now c.front.result (λ i. omega (arith, c.type_inv.bytes i)) c.front.ensures f, faulted c.args.bytes.now c.front.result c.front.ensures f)
