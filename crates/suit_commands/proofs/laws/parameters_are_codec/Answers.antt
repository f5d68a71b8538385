use Rattle.suit_commands.proofs.Fields.{parameters_are_codec}
use Rattle.suit_commands.proofs.laws.parameters_are_codec.Goals as goal

pub returns : goal.returns
returns c = parameters_are_codec
