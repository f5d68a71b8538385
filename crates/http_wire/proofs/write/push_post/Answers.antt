use Rattle.std.specs.Prelude.{codes, ◌++◌}
use Rattle.http_wire.specs.Writing.{field_line, media_lines, length_line}
use Rattle.http_wire.proofs.Written.{on_ok, post_lines}
use Rattle.http_wire.proofs.write.push_post.Goals as goal

pub returns : goal.returns
returns c =
    on_ok (post_lines c.args.head.now
    (codes "POST " ++ c.args.path.now ++ codes " HTTP/1.1") (field_line (codes "Host") c.args.host.now) (field_line (codes "Accept") (codes "application/teep+cbor")) (length_line c.args.body.now)
    c.push_target.new.head c.push_field.new.head c.push_media.new.head c.push_length.new.head (media_lines (codes "application/teep+cbor") c.args.body.now)
    c.in_ok-push_target.ensures c.in_ok-push_field.ensures c.in_ok-push_media.ensures)
    c.push_length.result c.push_length.ensures
