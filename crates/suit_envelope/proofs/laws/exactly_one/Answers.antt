use Rattle.suit_envelope.proofs.Public.Envelopes.{exactly_one}
use Rattle.suit_envelope.proofs.laws.exactly_one.Goals as goal

pub returns : goal.returns
returns c = exactly_one
