use Rattle.std.proofs.Common.{arith}
use Rattle.suit_commands.proofs.Public.Sequences.{sequences_are_proper}
use Rattle.benchmarks.proofs.manifests.writes_read.Goals as goal

pub writes-requires : goal.writes-requires
writes-requires c = (sequences_are_proper c.in-Ok.sequence c.args.bytes.now (λ i. omega (arith, c.type_inv.bytes i)) c.in-Ok.ensures.found).0
