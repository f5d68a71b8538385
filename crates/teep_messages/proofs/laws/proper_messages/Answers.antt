use Rattle.teep_messages.proofs.Public.Messages.{messages_are_proper, proper_are_spelled}
use Rattle.teep_messages.proofs.laws.proper_messages.Goals as goal

pub returns-clause-proper : goal.returns-clause-proper
returns-clause-proper c = messages_are_proper

pub returns-clause-spelled : goal.returns-clause-spelled
returns-clause-spelled c = proper_are_spelled
