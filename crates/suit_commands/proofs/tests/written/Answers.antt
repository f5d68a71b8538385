use Rattle.std.proofs.Common.{arith}
use Rattle.suit_commands.proofs.Public.Sequences.{sequences_are_proper}
use Rattle.suit_commands.proofs.tests.written.Goals as goal

pub write-requires : goal.write-requires
write-requires c = (let proper = sequences_are_proper c.in_ok-sequence.sequence c.args.bytes.now (λ i. omega (arith, c.type_inv.bytes i)) c.in_ok-sequence.ensures.found in proper.0)
