use Rattle.std.proofs.Common.{arith}
use Rattle.std.specs.Prelude.{Ok, Err}
use Rattle.item_codec.proofs.Public.Whole.{found, only, bad}
use Rattle.cose_core.specs.declared.fault.KeyFault.TheVariants.{NotCbor, NoMemory}
use Rattle.cose_core.specs.Key.{key_of}
use Rattle.cose_core.proofs.Public.OneKey.{key_or_refused}
use Rattle.cose_core.proofs.key.CoseKey.read.Goals as goal

pub returns-clause-found : goal.returns-clause-found
returns-clause-found c = found NoMemory (λ f. NotCbor f) key_of c.args.bytes.now c.read_bytes.result c.read_bytes.ensures

pub returns-clause-only : goal.returns-clause-only
returns-clause-only c = λ v is. only NoMemory (λ f. NotCbor f) key_of c.args.bytes.now c.read_bytes.result c.read_bytes.ensures (key_or_refused c.args.bytes.now (λ i. omega (arith, c.type_inv.bytes i))) (Ok v) is

pub returns-clause-bad : goal.returns-clause-bad
returns-clause-bad c = bad NoMemory (λ f. NotCbor f) key_of c.args.bytes.now c.read_bytes.result c.read_bytes.ensures

pub returns-clause-refused : goal.returns-clause-refused
returns-clause-refused c = λ e is. only NoMemory (λ f. NotCbor f) key_of c.args.bytes.now c.read_bytes.result c.read_bytes.ensures (key_or_refused c.args.bytes.now (λ i. omega (arith, c.type_inv.bytes i))) (Err e) is
