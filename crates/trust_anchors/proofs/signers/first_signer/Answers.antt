use Rattle.std.proofs.Common.{arith}
use Rattle.trust_anchors.specs.Verified.{Signs}
use Rattle.trust_anchors.proofs.Lists.{first_more}
use Rattle.trust_anchors.proofs.signers.first_signer.Goals as goal

pub returns-then-hss_verify_message : goal.returns-then-hss_verify_message
returns-then-hss_verify_message c =
    let m = c.args.message.now in
    let s = c.args.signature.now in
    first_more (λ key. ¬ (Signs m s key)) (Signs m s) c.args.keys.now c.loop-at.at c.index-keys-at.result (omega arith) c.index-keys-at.is
    (c.hss_verify_message.ensures.0 c.if-hss_verify_message.true) c.loop-at.invariant
