use Rattle.suit_envelope.proofs.Public.Envelopes.{fields_are_proper}
use Rattle.suit_envelope.proofs.laws.fields_are_proper.Goals as goal

pub returns : goal.returns
returns c = fields_are_proper
