use Rattle.std.proofs.Common.{sym, ap, ◌∙◌}
use Rattle.suit_engine.specs.Acts.{fetched_as, takes_fetched, takes, fetches}
use Rattle.suit_engine.proofs.Finding.{address_is, other_is, found_same}
use Rattle.suit_engine.proofs.world.Around.payload_from.Goals as goal

pub returns-then-is_uri : goal.returns-then-is_uri
returns-then-is_uri c =
    let w = c.args.self.now in
    let uri = c.args.uri.now in
    found_same (fetches w uri) (takes_fetched w uri (fetched_as uri w.env))
    (address_is w uri c.as_str-text.result.now c.as_str-text.ensures.value (sym c.is_name.ensures ∙ c.if-is_name.false) c.is_uri.result c.is_uri.ensures c.if-is_uri.true)
    c.fetched_payload.result c.fetched_payload.ensures

pub returns-else-is_uri : goal.returns-else-is_uri
returns-else-is_uri c = λ s.
    other_is c.args.self.now c.args.uri.now c.as_str-text.result.now c.as_str-text.ensures.value (sym c.is_name.ensures ∙ c.if-is_name.false) c.is_uri.result c.is_uri.ensures c.if-is_uri.false s
    ∙ ap (λ o. takes o s) (sym c.empty.ensures)
