use Rattle.suit_commands.proofs.Public.Sequences.{exactly_one}
use Rattle.suit_commands.proofs.laws.exactly_one.Goals as goal

pub returns : goal.returns
returns c = exactly_one
