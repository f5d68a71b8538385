use Rattle.std.proofs.Common.{arith}
use Rattle.journal_core.proofs.framed.know_lengths.Goals as goal

pub returns : goal.returns
returns c = λ i. omega (arith, c.type_inv.lengths i)
