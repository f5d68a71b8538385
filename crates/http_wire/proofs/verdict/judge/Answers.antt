use Rattle.std.proofs.Common.{inr, refl}
use Rattle.http_wire.proofs.Judging.{ok_more, not_whole, not_few, judged}
use Rattle.http_wire.proofs.verdict.judge.Goals as goal

pub returns-then-size-head : goal.returns-then-size-head
returns-then-size-head c = inr (not_whole c.args.head.now c.in-Ok-Complete.size c.parse.new.self (rw c.in-Ok-Complete.field-0-is at c.in-Ok-Complete.ensures.complete) c.if-size-head.true, refl)

pub returns-then-request-gt-FIELDS_LIMIT : goal.returns-then-request-gt-FIELDS_LIMIT
returns-then-request-gt-FIELDS_LIMIT c = inr (not_few c.args.head.now c.in-Ok-Complete.size c.parse.new.self (rw c.in-Ok-Complete.field-0-is at c.in-Ok-Complete.ensures.complete) c.if-request-gt-FIELDS_LIMIT.true, refl)

pub returns : goal.returns
returns c =
    ok_more _ _ (judged c.args.routes.now c.args.head.now c.in-Ok-Complete.size c.parse.new.self c.in-Some-Some.method c.in-Some-Some.target
    (rw c.in-Ok-Complete.field-0-is at c.in-Ok-Complete.ensures.complete) c.if-size-head.false c.if-request-gt-FIELDS_LIMIT.false c.in-Some-Some.is-0 c.in-Some-Some.is-1)
    c.verdict_on.result c.verdict_on.ensures
