use Rattle.std.proofs.Common.{arith}
use Rattle.cose_core.proofs.Borrowings.{signed_found, signed_only, signed_refused}
use Rattle.cose_core.proofs.borrowed.Signed.read.Goals as goal

pub returns-clause-found : goal.returns-clause-found
returns-clause-found c = signed_found c.args.bytes.now c.read_bytes.result c.read_bytes.ensures

pub returns-clause-only : goal.returns-clause-only
returns-clause-only c = signed_only c.args.bytes.now c.read_bytes.result c.read_bytes.ensures

pub returns-clause-refused : goal.returns-clause-refused
returns-clause-refused c = signed_refused c.args.bytes.now c.read_bytes.result (λ i. omega (arith, c.type_inv.bytes i)) c.read_bytes.ensures
