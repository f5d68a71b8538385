use Rattle.std.specs.Prelude.{Ok, Err}
use Rattle.suit_commands.specs.declared.fault.SequenceFault.TheVariants.{NoMemory}
use Rattle.suit_commands.specs.Sequences.{sequence_in}
use Rattle.suit_commands.proofs.Steps.{found, only, bad}
use Rattle.suit_commands.proofs.reader.read.Goals as goal

pub returns-clause-found : goal.returns-clause-found
returns-clause-found c = found NoMemory (sequence_in 9 c.args.bytes.now) c.read_bytes.result c.read_bytes.ensures

pub returns-clause-only : goal.returns-clause-only
returns-clause-only c = λ sequence is. only NoMemory (sequence_in 9 c.args.bytes.now) c.read_bytes.result (Ok sequence) c.read_bytes.ensures is

pub returns-clause-bad : goal.returns-clause-bad
returns-clause-bad c = bad NoMemory (sequence_in 9 c.args.bytes.now) c.read_bytes.result c.read_bytes.ensures

pub returns-clause-refused : goal.returns-clause-refused
returns-clause-refused c = λ fault is. only NoMemory (sequence_in 9 c.args.bytes.now) c.read_bytes.result (Err fault) c.read_bytes.ensures is
