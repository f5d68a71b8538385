use Rattle.std.proofs.lemmas.Result.{err_from_is_err_and}
use Rattle.device_image.specs.Held.{state_of, head_of}
use Rattle.device_image.proofs.Replaying.{settled_refused, settled_as}
use Rattle.device_image.proofs.held.Held.settle.Goals as goal

pub returns-in_err-replay-clause-settled : goal.returns-in_err-replay-clause-settled
returns-in_err-replay-clause-settled g c = λ told bodies fits.
    let p = err_from_is_err_and c.from_residual.result c.from_residual.ensures.1 in
    rw (p.1, p.2) (settled_refused (head_of c.args.self.now) bodies (state_of c.replay.new.self) c.in_err-replay.field-0.0 (c.in_err-replay.ensures.replayed told bodies fits))

pub returns-clause-settled : goal.returns-clause-settled
returns-clause-settled g c = λ told bodies fits.
    settled_as (head_of c.args.self.now) bodies (state_of c.replay.new.self) c.judge.result (c.in_ok-replay.ensures.replayed told bodies fits) c.judge.ensures.judged
