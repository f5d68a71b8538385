use Rattle.cbor_core.proofs.Inputs.{exactly_one}
use Rattle.cbor_core.proofs.laws.exactly_one.Goals as goal

pub returns : goal.returns
returns c = exactly_one
