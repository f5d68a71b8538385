use Rattle.journal_core.proofs.Public.Elsewhere.{zeros_law}
use Rattle.journal_core.proofs.laws.zeros_are_empty.Goals as goal

pub returns : goal.returns
returns c = record { empty = zeros_law }
