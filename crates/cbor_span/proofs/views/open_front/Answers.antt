use Rattle.std.proofs.Common.{◌∙◌}
use Rattle.cbor_span.proofs.Openings.{opened_ok, opened_not}
use Rattle.cbor_span.proofs.views.open_front.Goals as goal

pub returns-in-Ok : goal.returns-in-Ok
returns-in-Ok c x more s =
    let read = rw c.new-input.ensures at c.in-Ok.ensures in
    let o = opened_ok x more c.args.bytes.now c.in-Ok.head c.read_head.new.input s.0 s.1 read in
    (o.0, c.rest.ensures ∙ o.1)

pub returns-in-Err : goal.returns-in-Err
returns-in-Err c x more s =
    let read = rw c.new-input.ensures at c.in-Err.ensures in
    opened_not x more c.args.bytes.now c.in-Err.field-0 s.0 s.1 read
