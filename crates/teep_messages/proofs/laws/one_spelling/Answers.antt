use Rattle.teep_messages.proofs.Public.Messages.{one_spelling}
use Rattle.teep_messages.proofs.laws.one_spelling.Goals as goal

pub returns : goal.returns
returns c = one_spelling
