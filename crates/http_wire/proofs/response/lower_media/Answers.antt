use Rattle.std.proofs.Common.{◌∙◌}
use Rattle.http_wire.proofs.Judging.{ok_more}
use Rattle.http_wire.proofs.Media.{text_media, other_media}
use Rattle.http_wire.proofs.response.lower_media.Goals as goal

pub returns-in_ok-to_ascii_lowercase-in-Ok : goal.returns-in_ok-to_ascii_lowercase-in-Ok
returns-in_ok-to_ascii_lowercase-in-Ok c =
    text_media c.args.media.now c.in-Ok.text.now _ c.in-Ok.ensures.cases.0 c.in-Ok.ensures.cases.1 (c.from_string.ensures ∙ c.in_ok-to_ascii_lowercase-in-Ok.ensures.ok)

pub returns-in-Err : goal.returns-in-Err
returns-in-Err c = ok_more _ _ (other_media c.args.media.now c.in-Err.ensures.cases.0) c.from_str.result c.from_str.ensures
