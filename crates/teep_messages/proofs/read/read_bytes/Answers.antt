use Rattle.std.proofs.Common.{ap, refl, inl, inr}
use Rattle.std.specs.Prelude.{Err}
use Rattle.item_codec.proofs.Public.Whole.{item_answers}
use Rattle.teep_messages.specs.declared.fault.MessageFault.TheVariants.{Cbor, NoMemory}
use Rattle.teep_messages.specs.Messages.{message_of}
use Rattle.teep_messages.proofs.read.read_bytes.Goals as goal

pub returns-in-Ok : goal.returns-in-Ok
returns-in-Ok c = item_answers NoMemory (λ f. Cbor f) message_of c.args.bytes.now c.in-Ok.item c.read_item.result c.in-Ok.ensures.found c.read_item.ensures

pub returns-in-Err-Bad : goal.returns-in-Err-Bad
returns-in-Err-Bad c = inr (inl (record { fault = c.in-Err-Bad.fault; faulty = c.in-Err-Bad.ensures.bad c.in-Err-Bad.fault (ap Err c.in-Err-Bad.field-0-is); is = cc }))
