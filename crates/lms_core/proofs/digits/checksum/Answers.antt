use Rattle.std.proofs.Common.{◌≡◌, ◌+◌, ◌-◌, ◌/◌, ◌^◌, sym, ◌∙◌, ap, arith}
use Rattle.lms_core.specs.Digits.{coef}
use Rattle.lms_core.proofs.Public.Rows.{width_of_row, shifted_one}
use Rattle.lms_core.proofs.Sums.{shortfall_more, bound_more, checksum_is}
use Rattle.lms_core.proofs.digits.checksum.Goals as goal

pub loop-i-preserved : goal.loop-i-preserved
loop-i-preserved c =
    let largest = shifted_one c.args.params.w (width_of_row c.args.params c.requires) in
    let more = shortfall_more c.args.digest.now c.args.params.w (2 ^ c.args.params.w - 1) c.loop-i.i in
    let digit = c.from.ensures ∙ c.coef.ensures.digit in
    rw (largest, digit) record {
      total = ap (λ n. n + (2 ^ c.args.params.w - 1 - coef c.args.digest.now c.loop-i.i c.args.params.w)) c.loop-i.invariant.total ∙ sym more;
      bound = bound_more c.loop-i.sum c.loop-i.i (2 ^ c.args.params.w - 1) _ c.loop-i.invariant.bound;
    }

pub returns : goal.returns
returns c =
    let count : c.loop-i.i ≡ 256 / c.args.params.w = omega arith in
    checksum_is c.args.digest.now c.args.params c.loop-i.i c.loop-i.sum c.requires count c.loop-i.invariant.total c.loop-i.invariant.bound
