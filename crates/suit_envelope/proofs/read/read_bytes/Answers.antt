use Rattle.std.proofs.Common.{ap, inl, inr}
use Rattle.std.specs.Prelude.{Err}
use Rattle.suit_envelope.proofs.read.read_bytes.Goals as goal

pub returns-in-Err-Bad : goal.returns-in-Err-Bad
returns-in-Err-Bad c = inr (inl (record { fault = c.in-Err-Bad.fault; faulty = c.in-Err-Bad.ensures.bad c.in-Err-Bad.fault (ap Err c.in-Err-Bad.field-0-is); is = cc }))
