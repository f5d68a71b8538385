use Rattle.http_wire.proofs.Joining.{without_body}
use Rattle.http_wire.proofs.response.fulfil.Goals as goal

pub returns-in-Err-clause-response : goal.returns-in-Err-clause-response
returns-in-Err-clause-response g c = λ told.
    without_body c.args.limit c.args.it _ _ c.in-Err.fault c.from.result c.from.ensures c.if-size-limit.false (c.in-Err.ensures.body told)
