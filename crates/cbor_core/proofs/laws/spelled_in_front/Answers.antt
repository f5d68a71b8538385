use Rattle.cbor_core.proofs.Public.Whole.{spelled_in_front}
use Rattle.cbor_core.proofs.laws.spelled_in_front.Goals as goal

pub returns : goal.returns
returns c = spelled_in_front
