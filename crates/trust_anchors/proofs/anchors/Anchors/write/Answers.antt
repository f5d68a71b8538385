use Rattle.std.proofs.Common.{ℕ, List, subst}
use Rattle.std.specs.List.{AllZip}
use Rattle.trust_anchors.specs.Anchors.{Wraps}
use Rattle.trust_anchors.proofs.Readers.{written}
use Rattle.trust_anchors.proofs.anchors.Anchors.write.Goals as goal

pub returns-clause-again : goal.returns-clause-again
returns-clause-again c =
    let ms = c.in_ok-write_keys.field-0 in
    let bs = c.in_ok-write_keys-2.field-0 in
    written c.args.self.now ms bs c.new-roles.result c.push.new.self c.push-2.new.self c.new-roles.ensures c.in_ok-push.ensures.ok c.in_ok-push-2.ensures.ok
    c.requires.manager c.requires.author
    (subst (λ (keys : List (List ℕ)). AllZip Wraps keys ms) c.as_slice.ensures c.in_ok-write_keys.ensures.again)
    (subst (λ (keys : List (List ℕ)). AllZip Wraps keys bs) c.as_slice-2.ensures c.in_ok-write_keys-2.ensures.again)
