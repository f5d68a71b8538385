use Rattle.std.proofs.Common.{arith}
use Rattle.std.specs.Prelude.{Ok, Err}
use Rattle.item_codec.proofs.Public.Whole.{found, only, bad}
use Rattle.suit_envelope.specs.declared.fault.EnvelopeFault.TheVariants.{Cbor, NoMemory}
use Rattle.suit_envelope.specs.Envelopes.{envelope_of}
use Rattle.suit_envelope.proofs.Public.Envelopes.{exactly_one}
use Rattle.suit_envelope.proofs.envelope.Envelope.read.Goals as goal

pub returns-clause-found : goal.returns-clause-found
returns-clause-found c = found NoMemory (λ f. Cbor f) envelope_of c.args.bytes.now c.read_bytes.result c.read_bytes.ensures

pub returns-clause-only : goal.returns-clause-only
returns-clause-only c = λ envelope is. only NoMemory (λ f. Cbor f) envelope_of c.args.bytes.now c.read_bytes.result c.read_bytes.ensures (exactly_one c.args.bytes.now (λ i. omega (arith, c.type_inv.bytes i))) (Ok envelope) is

pub returns-clause-bad : goal.returns-clause-bad
returns-clause-bad c = bad NoMemory (λ f. Cbor f) envelope_of c.args.bytes.now c.read_bytes.result c.read_bytes.ensures

pub returns-clause-refused : goal.returns-clause-refused
returns-clause-refused c = λ fault is. only NoMemory (λ f. Cbor f) envelope_of c.args.bytes.now c.read_bytes.result c.read_bytes.ensures (exactly_one c.args.bytes.now (λ i. omega (arith, c.type_inv.bytes i))) (Err fault) is
