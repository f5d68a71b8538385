use Rattle.suit_commands.proofs.Public.Sequences.{one_spelling}
use Rattle.suit_commands.proofs.laws.one_spelling.Goals as goal

pub returns : goal.returns
returns c = one_spelling
