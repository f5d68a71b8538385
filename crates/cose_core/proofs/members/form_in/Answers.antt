use Rattle.cose_core.specs.Reading.{content_of}
use Rattle.cose_core.proofs.Shapes.{form_lies}
use Rattle.cose_core.proofs.members.form_in.Goals as goal

pub returns : goal.returns
returns c x s =
    let spelled = c.content_in-content.ensures x s in
    form_lies x c.content_in-content.result.now c.in-Some.n c.in-Some.members.now c.members_in.result spelled (c.in-Some.ensures (content_of x) spelled) c.if-n-ne4.false c.members_in.ensures
