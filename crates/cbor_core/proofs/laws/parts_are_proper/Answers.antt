use Rattle.cbor_core.proofs.Public.Parts.{parts_are_proper}
use Rattle.cbor_core.proofs.laws.parts_are_proper.Goals as goal

pub returns : goal.returns
returns c = parts_are_proper
