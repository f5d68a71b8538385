use Rattle.std.proofs.Common.{sym, subst}
use Rattle.cbor_core.specs.Spelling.{IsProper}
use Rattle.item_codec.proofs.Public.Whole.{writes, writes_one}
use Rattle.teep_messages.specs.Messages.{message_of}
use Rattle.teep_messages.specs.Written.{written}
use Rattle.teep_messages.proofs.Parts.{message_part}
use Rattle.teep_messages.proofs.message.Message.write.Goals as goal

pub encode-requires : goal.encode-requires
encode-requires c = subst IsProper (sym c.in_ok-item.ensures) c.requires.item

pub returns-clause-is : goal.returns-clause-is
returns-clause-is c = writes message_of written c.args.self.now (message_part.seen c.args.self.now c.requires.fields) c.in_ok-item.item c.in_ok-item.ensures c.encode.result c.encode.ensures

pub returns-clause-one : goal.returns-clause-one
returns-clause-one c =
    writes_one message_part c.args.self.now c.encode.result (writes message_of written c.args.self.now (message_part.seen c.args.self.now c.requires.fields) c.in_ok-item.item c.in_ok-item.ensures c.encode.result c.encode.ensures)
