use Rattle.http_wire.proofs.Asking.{written_requests}
use Rattle.http_wire.proofs.laws.written_requests_are_read.Goals as goal

pub returns : goal.returns
returns c = written_requests
