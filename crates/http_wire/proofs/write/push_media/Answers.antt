use Rattle.std.proofs.Common.{◌∙◌}
use Rattle.http_wire.proofs.Written.{on_ok, media_line}
use Rattle.http_wire.proofs.write.push_media.Goals as goal

pub returns-in-len1-up : goal.returns-in-len1-up
returns-in-len1-up c = on_ok (λ e. e ∙ media_line c.args.head.now c.args.media.now c.args.body.now c.in-len1-up.len_at_least) c.push_field.result c.push_field.ensures
