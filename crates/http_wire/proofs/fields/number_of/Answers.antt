use Rattle.std.proofs.Common.{arith}
use Rattle.http_wire.proofs.Digits.{next_digit}
use Rattle.http_wire.proofs.fields.number_of.Goals as goal

pub overflow_mul-number : goal.overflow_mul-number
overflow_mul-number c =
    let step = next_digit c.args.digits.now c.loop-digit.digit-index c.loop-digit.number c.requires c.loop-digit-test.true c.loop-digit.invariant in
    omega (arith, step.0, step.1)

pub overflow_add-number : goal.overflow_add-number
overflow_add-number c =
    let step = next_digit c.args.digits.now c.loop-digit.digit-index c.loop-digit.number c.requires c.loop-digit-test.true c.loop-digit.invariant in
    omega (arith, step.0, step.1, c.from.ensures)

pub loop-digit-preserved : goal.loop-digit-preserved
loop-digit-preserved c =
    let step = next_digit c.args.digits.now c.loop-digit.digit-index c.loop-digit.number c.requires c.loop-digit-test.true c.loop-digit.invariant in
    omega (arith, step.0, c.from.ensures)
