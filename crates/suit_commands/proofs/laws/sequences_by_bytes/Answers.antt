use Rattle.suit_commands.proofs.Public.Sequences.{by_bytes}
use Rattle.suit_commands.proofs.laws.sequences_by_bytes.Goals as goal

pub returns : goal.returns
returns c = by_bytes
