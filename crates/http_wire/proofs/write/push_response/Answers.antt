use Rattle.http_wire.specs.Writing.{status_line, media_lines, length_lines}
use Rattle.http_wire.proofs.Written.{on_ok, response_lines}
use Rattle.http_wire.proofs.write.push_response.Goals as goal

pub returns : goal.returns
returns c =
    on_ok (response_lines c.args.head.now (status_line c.args.status) c.push_status.new.head c.push_media.new.head c.push_size.new.head
    (media_lines c.args.media.now c.args.body.now) (length_lines c.args.status c.args.body.now) c.in_ok-push_status.ensures c.in_ok-push_media.ensures)
    c.push_size.result (rw c.as_u16.ensures.value at c.push_size.ensures)
