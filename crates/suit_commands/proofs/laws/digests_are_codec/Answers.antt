use Rattle.suit_commands.proofs.Public.Digests.{digests_are_codec}
use Rattle.suit_commands.proofs.laws.digests_are_codec.Goals as goal

pub returns : goal.returns
returns c = digests_are_codec
