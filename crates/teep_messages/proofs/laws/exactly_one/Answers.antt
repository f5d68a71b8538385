use Rattle.teep_messages.proofs.Public.Messages.{exactly_one}
use Rattle.teep_messages.proofs.laws.exactly_one.Goals as goal

pub returns : goal.returns
returns c = exactly_one
