use Rattle.std.proofs.Common.{arith}
use Rattle.cbor_core.proofs.Inputs.{found, only, faulty, refused}
use Rattle.cbor_core.proofs.reader.decode.Goals as goal

pub returns-clause-found : goal.returns-clause-found
returns-clause-found c = found c.args.bytes.now c.read_front.result (λ i. omega (arith, c.type_inv.bytes i)) c.read_front.ensures

pub returns-clause-only : goal.returns-clause-only
returns-clause-only c x n h = only c.args.bytes.now c.read_front.result c.read_front.ensures x n h.0 h.1

pub returns-clause-bad : goal.returns-clause-bad
returns-clause-bad c = faulty c.args.bytes.now c.read_front.result (λ i. omega (arith, c.type_inv.bytes i)) c.read_front.ensures

pub returns-clause-refused : goal.returns-clause-refused
returns-clause-refused c = refused c.args.bytes.now c.read_front.result c.read_front.ensures
