use Rattle.http_wire.proofs.Joining.{behind_announced}
use Rattle.http_wire.proofs.response.behind_head.Goals as goal

pub returns-in-Ok-Some-clause-response : goal.returns-in-Ok-Some-clause-response
returns-in-Ok-Some-clause-response g c = λ told.
    behind_announced c.args.limit c.args.head.now c.in-Ok-Some.it _ _ (rw c.in-Ok-Some.field-0-is at c.in-Ok-Some.ensures) c.fulfil.result (c.fulfil.ensures.response told)
