use Rattle.http_wire.proofs.AloneResponse.{one_response}
use Rattle.http_wire.proofs.laws.one_response.Goals as goal

pub returns : goal.returns
returns c = one_response
