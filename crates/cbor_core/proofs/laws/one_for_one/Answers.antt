use Rattle.cbor_core.proofs.Public.Whole.{one_for_one}
use Rattle.cbor_core.proofs.laws.one_for_one.Goals as goal

pub returns : goal.returns
returns c = one_for_one
