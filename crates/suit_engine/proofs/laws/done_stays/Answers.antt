use Rattle.suit_engine.proofs.Whole.{done_stays}
use Rattle.suit_engine.proofs.laws.done_stays.Goals as goal

pub returns : goal.returns
returns c = done_stays
