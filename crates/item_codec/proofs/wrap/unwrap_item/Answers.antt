use Rattle.std.proofs.Common.{sym, ap, inl}
use Rattle.std.specs.Prelude.{Err}
use Rattle.item_codec.proofs.Public.Decoded.{content_is, content_none}
use Rattle.item_codec.proofs.wrap.unwrap_item.Goals as goal

pub returns-in-Ok : goal.returns-in-Ok
returns-in-Ok g c = record { found = content_is c.args.fault c.args.item.now c.in-Some.bytes.now c.in-Ok.content (sym c.in-Some.ensures) c.in-Ok.ensures.found }

pub returns-in-Err-Bad : goal.returns-in-Err-Bad
returns-in-Err-Bad g c =
    record { found = inl (content_none c.args.fault c.args.item.now c.in-Some.bytes.now c.in-Err-Bad.field-0-0 (sym c.in-Some.ensures) (c.in-Err-Bad.ensures.bad c.in-Err-Bad.field-0-0 (ap Err c.in-Err-Bad.field-0-is))) }
