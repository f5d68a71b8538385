use Rattle.std.proofs.Common.{[]}
use Rattle.cbor_span.proofs.Remaining.{in_front}
use Rattle.cbor_span.proofs.fields.field_in.Goals as goal

pub returns-in-Some : goal.returns-in-Some
returns-in-Some c ps s len = let r = c.in-Some.ensures ps [] (in_front ps c.args.pairs.now s) len in r.0

pub returns-in-None : goal.returns-in-None
returns-in-None c ps s len = absurd (c.in-None.ensures ps [] (in_front ps c.args.pairs.now s) len)
