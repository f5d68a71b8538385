use Rattle.std.proofs.Common.{◌≡◌, ℕ, ◌-◌, List, ◌++◌, ap, ◌∙◌, arith}
use Rattle.lms_core.specs.Digits.{coef}
use Rattle.hss_sign.specs.Sign.{chain_to_digit, one_time_signature}
use Rattle.hss_sign.proofs.Joined.{added_more, chain_told, joined}
use Rattle.hss_sign.proofs.one_time.sign_digest.Goals as goal

pub loop-i-preserved : goal.loop-i-preserved
loop-i-preserved c =
    let tree = c.args.secret.now in
    let w = c.args.params.w in
    let string = c.signed_string-string.result in
    let steps : c.coef-digit.result - 0 ≡ coef string c.loop-i.i w = omega (arith, c.coef-digit.ensures.digit) in
    let value = chain_told tree.identifier c.args.leaf c.loop-i.i _ (coef string c.loop-i.i w) _ _ c.chain-value.result c.chain-value.ensures steps c.at-start.ensures in
    added_more (chain_to_digit c.args.params tree c.args.leaf string) c.args.bytes.now.items c.loop-i.bytes.items _ c.chain-value.result c.loop-i.i c.loop-i.invariant c.in_ok-extend_from_slice.ensures.items value

pub returns : goal.returns
unfolding one_time_signature
returns c = record {
  value =
      let count : c.loop-i.i ≡ c.args.params.p = omega arith in
      (rw count at c.loop-i.invariant) ∙ ap (λ (x : List ℕ). c.args.bytes.now.items ++ joined (chain_to_digit c.args.params c.args.secret.now c.args.leaf x) c.args.params.p) c.signed_string-string.ensures;
}
