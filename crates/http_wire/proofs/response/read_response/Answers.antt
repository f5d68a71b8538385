use Rattle.std.proofs.Common.{List, ℕ, subst, inr}
use Rattle.http_wire.specs.Behind.{AnsweredBehind}
use Rattle.http_wire.proofs.Joining.{answered, without_head}
use Rattle.http_wire.proofs.response.read_response.Goals as goal

pub returns-in-Ok-Some-clause-response : goal.returns-in-Ok-Some-clause-response
returns-in-Ok-Some-clause-response g c = λ told.
    let head = rw c.in-Ok-Some.field-0-is at (c.in-Ok-Some.ensures.head told) in
    let mid = g.L.Source.stream c.read_head.new.link in
    let new = g.L.Source.stream c.behind_head.new.link in
    answered c.args.limit c.in-Ok-Some.head (g.L.Source.stream c.args.link.now) mid new head.0 head.1 c.behind_head.result
    (subst (λ (h : List ℕ). AnsweredBehind c.args.limit h mid new c.behind_head.result) c.as_slice.ensures (c.behind_head.ensures.response told))

pub returns-in-Ok-None-clause-response : goal.returns-in-Ok-None-clause-response
returns-in-Ok-None-clause-response g c = λ told. inr (rw c.in-Ok-None.field-0-is at (c.in-Ok-None.ensures.head told))

pub returns-in-Err-clause-response : goal.returns-in-Err-clause-response
returns-in-Err-clause-response g c = λ told. without_head _ _ _ c.in-Err.fault c.from.result c.from.ensures (c.in-Err.ensures.head told)
