use Rattle.cbor_core.proofs.Public.ExactlyOne.{exactly_one_whole}
use Rattle.cbor_core.proofs.laws.exactly_one_whole.Goals as goal

pub returns : goal.returns
returns c = exactly_one_whole
