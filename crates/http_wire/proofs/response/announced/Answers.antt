use Rattle.std.proofs.Common.{inr, refl}
use Rattle.http_wire.proofs.Judging.{ok_more, no_whole, no_few, announces}
use Rattle.http_wire.proofs.response.announced.Goals as goal

pub returns-then-size-head : goal.returns-then-size-head
returns-then-size-head c = inr (no_whole c.args.head.now c.in-Ok-Complete.size c.parse.new.self (rw c.in-Ok-Complete.field-0-is at c.in-Ok-Complete.ensures.complete) c.if-size-head.true, refl)

pub returns-then-response-gt-FIELDS_LIMIT : goal.returns-then-response-gt-FIELDS_LIMIT
returns-then-response-gt-FIELDS_LIMIT c = inr (no_few c.args.head.now c.in-Ok-Complete.size c.parse.new.self (rw c.in-Ok-Complete.field-0-is at c.in-Ok-Complete.ensures.complete) c.if-response-gt-FIELDS_LIMIT.true, refl)

pub returns : goal.returns
returns c =
    ok_more _ _ (announces c.args.head.now c.in-Ok-Complete.size c.parse.new.self c.in-Some.status
    (rw c.in-Ok-Complete.field-0-is at c.in-Ok-Complete.ensures.complete) c.if-size-head.false c.if-response-gt-FIELDS_LIMIT.false c.in-Some.is)
    c.announced_by.result c.announced_by.ensures
