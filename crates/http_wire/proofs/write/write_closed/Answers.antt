use Rattle.http_wire.proofs.Written.{wrote_front}
use Rattle.http_wire.proofs.write.write_closed.Goals as goal

pub returns-in-Err-clause-written : goal.returns-in-Err-clause-written
returns-in-Err-clause-written g c = λ told. wrote_front c.args.head.now c.args.body.now _ _ c.in-Err.field-0 (c.in-Err.ensures.contents told)
