use Rattle.teep_messages.proofs.Public.Messages.{messages_are_proper}
use Rattle.teep_messages.proofs.tests.written.Goals as goal

pub write-requires : goal.write-requires
write-requires c = (let proper = messages_are_proper c.in_ok-message.message c.args.bytes.now c.in_ok-message.ensures.found in proper.0)
