use Rattle.std.proofs.Common.{Option, sym, subst}
use Rattle.std.specs.Prelude.{MatchOption}
use Rattle.cose_core.specs.declared.key.CoseKey.{CoseKey}
use Rattle.cose_core.specs.Key.{KeyIs}
use Rattle.trust_anchors.proofs.Keys.{is_no_key, hss_read}
use Rattle.trust_anchors.proofs.reading.read_key.Goals as goal

pub returns-in_default-2 : goal.returns-in_default-2
returns-in_default-2 c =
    let bytes = c.in-Some.bytes.now in
    is_no_key c.args.item.now bytes (sym c.in-Some.ensures)
    (subst (λ (o : Option CoseKey). MatchOption o ((key : CoseKey) → KeyIs key bytes → ⊥) (λ key. KeyIs key bytes)) c.in_default-2.is c.in_ok-key.ensures)

pub returns : goal.returns
returns c =
    let bytes = c.in-Some.bytes.now in
    hss_read c.args.item.now bytes c.in-Some-2.key c.as_slice.result.now c.read.result (sym c.in-Some.ensures)
    (subst (λ (o : Option CoseKey). MatchOption o ((key : CoseKey) → KeyIs key bytes → ⊥) (λ key. KeyIs key bytes)) c.in-Some-2.is c.in_ok-key.ensures)
    c.as_slice.ensures c.read.ensures.known c.read.ensures.value
