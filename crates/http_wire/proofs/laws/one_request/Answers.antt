use Rattle.http_wire.proofs.Alone.{one_request}
use Rattle.http_wire.proofs.laws.one_request.Goals as goal

pub returns : goal.returns
returns c = one_request
