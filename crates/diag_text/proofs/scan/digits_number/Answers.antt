use Rattle.diag_text.proofs.Digits.{limit_reached}
use Rattle.diag_text.proofs.scan.digits_number.Goals as goal

pub returns-then-n-limit-clause-value : goal.returns-then-n-limit-clause-value
returns-then-n-limit-clause-value c = limit_reached c.args.digits.now c.loop-digit.digit-index c.loop-digit.n c.args.limit c.loop-digit-test.true c.requires.all c.loop-digit.invariant.value c.if-n-limit.true
