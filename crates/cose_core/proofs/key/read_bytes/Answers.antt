use Rattle.std.proofs.Common.{ap, inl, inr}
use Rattle.std.specs.Prelude.{Err}
use Rattle.item_codec.proofs.Public.Whole.{item_answers}
use Rattle.cose_core.specs.declared.fault.KeyFault.TheVariants.{NotCbor, NoMemory}
use Rattle.cose_core.specs.Key.{key_of}
use Rattle.cose_core.proofs.key.read_bytes.Goals as goal

pub returns-in-Ok : goal.returns-in-Ok
returns-in-Ok c = item_answers NoMemory (λ f. NotCbor f) key_of c.args.bytes.now c.in-Ok.item c.read_item.result c.in-Ok.ensures.found c.read_item.ensures

pub returns-in-Err-Bad : goal.returns-in-Err-Bad
returns-in-Err-Bad c = inr (inl (record { fault = c.in-Err-Bad.fault; faulty = c.in-Err-Bad.ensures.bad c.in-Err-Bad.fault (ap Err c.in-Err-Bad.field-0-is); is = cc }))
