use Rattle.suit_commands.specs.declared.fault.SequenceFault.TheVariants.{NoMemory}
use Rattle.suit_commands.specs.Sequences.{sequence_in}
use Rattle.suit_envelope.proofs.Tells.{answers}
use Rattle.suit_envelope.proofs.commands.read_sequence.Goals as goal

pub returns : goal.returns
returns c = answers NoMemory (sequence_in 9 c.args.bytes.now) c.read.result c.read.ensures.found c.read.ensures.bad
