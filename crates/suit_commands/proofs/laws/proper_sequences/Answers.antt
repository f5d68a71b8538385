use Rattle.suit_commands.proofs.Public.Sequences.{sequences_are_proper, proper_are_spelled}
use Rattle.suit_commands.proofs.laws.proper_sequences.Goals as goal

pub returns-clause-proper : goal.returns-clause-proper
returns-clause-proper c = sequences_are_proper

pub returns-clause-spelled : goal.returns-clause-spelled
returns-clause-spelled c = proper_are_spelled
