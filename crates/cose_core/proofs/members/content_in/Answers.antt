use Rattle.cose_core.proofs.Shapes.{content_lies}
use Rattle.cose_core.proofs.members.content_in.Goals as goal

pub returns-then-n-eq-SIGN1_TAG : goal.returns-then-n-eq-SIGN1_TAG
returns-then-n-eq-SIGN1_TAG c x s = content_lies x c.in-Some.n c.in-Some.content.now c.args.bytes.now s (c.in-Some.ensures x s) c.if-n-eq-SIGN1_TAG.true
