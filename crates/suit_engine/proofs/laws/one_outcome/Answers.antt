use Rattle.suit_engine.proofs.Whole.{one_outcome}
use Rattle.suit_engine.proofs.laws.one_outcome.Goals as goal

pub returns : goal.returns
returns c = one_outcome
