use Rattle.std.proofs.Common.{ℕ, ◌+◌, List, Option, take, refl, sym, subst, arith}
use Rattle.std.specs.Prelude.{MatchOption}
use Rattle.std.specs.List.{AllZip}
use Rattle.trust_anchors.specs.Anchors.{Wraps, IsGood, IsBad}
use Rattle.trust_anchors.proofs.Lists.{zip_more, first_more, zip_each}
use Rattle.trust_anchors.proofs.reading.read_keys.Goals as goal

pub returns-in_default : goal.returns-in_default
returns-in_default c =
    let x = c.index-items-at.result in
    let bad = subst (λ (o : Option (List ℕ)). MatchOption o (IsBad x) (λ key. Wraps key x)) c.in_default.is c.in_ok-key.ensures in
    (refl, first_more IsGood IsBad c.args.items.now c.loop-at.at x (omega arith) c.index-items-at.is bad (zip_each Wraps c.loop-at.keys (take c.loop-at.at c.args.items.now) c.loop-at.invariant))

pub loop-at-preserved : goal.loop-at-preserved
loop-at-preserved c =
    let x = c.index-items-at.result in
    let wraps = subst (λ (o : Option (List ℕ)). MatchOption o (IsBad x) (λ key. Wraps key x)) c.in-Some.is c.in_ok-key.ensures in
    subst (λ (keys : List (List ℕ)). AllZip Wraps keys (take (c.loop-at.at + 1) c.args.items.now)) (sym c.in_ok-push.ensures.ok)
    (zip_more Wraps c.loop-at.keys c.args.items.now c.loop-at.at c.in-Some.key x (omega arith) c.index-items-at.is wraps c.loop-at.invariant)
