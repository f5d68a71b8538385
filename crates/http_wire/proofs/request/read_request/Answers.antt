use Rattle.std.proofs.Common.{List, ℕ, subst, inr, refl}
use Rattle.http_wire.specs.Behind.{AskedBehind}
use Rattle.http_wire.proofs.Joining.{joined, no_head}
use Rattle.http_wire.proofs.request.read_request.Goals as goal

pub returns-in-Ok-Some-clause-request : goal.returns-in-Ok-Some-clause-request
returns-in-Ok-Some-clause-request g c = λ told.
    let head = rw c.in-Ok-Some.field-0-is at (c.in-Ok-Some.ensures.head told) in
    let mid = g.L.Source.stream c.read_head.new.link in
    let new = g.L.Source.stream c.behind_head.new.link in
    joined c.args.routes.now c.in-Ok-Some.head (g.L.Source.stream c.args.link.now) mid new head.0 head.1 c.behind_head.result
    (subst (λ (h : List ℕ). AskedBehind c.args.routes.now h mid new c.behind_head.result) c.as_slice.ensures (c.behind_head.ensures.request told))

pub returns-in-Ok-None-clause-request : goal.returns-in-Ok-None-clause-request
returns-in-Ok-None-clause-request g c = λ told. inr (refl, rw c.in-Ok-None.field-0-is at (c.in-Ok-None.ensures.head told))

pub returns-in-Err-clause-request : goal.returns-in-Err-clause-request
returns-in-Err-clause-request g c = λ told. no_head _ _ _ c.in-Err.fault c.from.result c.from.ensures (c.in-Err.ensures.head told)
