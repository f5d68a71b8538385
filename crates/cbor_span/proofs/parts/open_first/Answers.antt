use Rattle.std.proofs.Common.{◌∙◌, arith}
use Rattle.cbor_span.proofs.Openings.{opened_not, taken_ok, taken_not, taken_span}
use Rattle.cbor_span.proofs.parts.open_first.Goals as goal

pub returns-in-Ok-skip_content-clause-found : goal.returns-in-Ok-skip_content-clause-found
returns-in-Ok-skip_content-clause-found c x more s =
    let read = rw c.new-input.ensures at c.in-Ok.ensures in
    let t = taken_ok x more c.args.bytes.now c.in-Ok.head c.read_head.new.input c.skip_content.new.input s.0 s.1 read c.in-Ok-skip_content.ensures in
    (t.0, rw c.rest-content.ensures at c.read_since.ensures ∙ t.1, c.rest.ensures ∙ t.2)

pub returns-in-Err-skip_content-clause-found : goal.returns-in-Err-skip_content-clause-found
returns-in-Err-skip_content-clause-found c x more s =
    let read = rw c.new-input.ensures at c.in-Ok.ensures in
    taken_not x more c.args.bytes.now c.in-Ok.head c.read_head.new.input _ s.0 s.1 read c.in-Err-skip_content.ensures

pub returns-in-Err-clause-found : goal.returns-in-Err-clause-found
returns-in-Err-clause-found c x more s =
    let read = rw c.new-input.ensures at c.in-Err.ensures in
    opened_not x more c.args.bytes.now c.in-Err.field-0 s.0 s.1 read

pub returns-in-Ok-skip_content-clause-spelled : goal.returns-in-Ok-skip_content-clause-spelled
returns-in-Ok-skip_content-clause-spelled c =
    let read = rw c.new-input.ensures at c.in-Ok.ensures in
    taken_span c.args.bytes.now c.in-Ok.head c.read_head.new.input c.skip_content.new.input _ (λ i. omega (arith, c.type_inv.bytes i)) read c.in-Ok-skip_content.ensures c.rest.ensures
