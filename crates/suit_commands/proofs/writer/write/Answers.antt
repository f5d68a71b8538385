use Rattle.suit_commands.proofs.Steps.{writes, writes_one}
use Rattle.suit_commands.proofs.writer.write.Goals as goal

pub returns-clause-is : goal.returns-clause-is
returns-clause-is c = writes c.args.sequence.now c.requires c.write_bytes.result c.write_bytes.ensures

pub returns-clause-one : goal.returns-clause-one
returns-clause-one c = writes_one c.args.sequence.now c.write_bytes.result c.write_bytes.ensures
