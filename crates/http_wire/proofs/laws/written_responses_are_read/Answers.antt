use Rattle.http_wire.proofs.Answering.{written_responses}
use Rattle.http_wire.proofs.laws.written_responses_are_read.Goals as goal

pub returns : goal.returns
returns c = written_responses
