use Rattle.suit_engine.proofs.Public.Suspended.{waits_on}
use Rattle.suit_engine.proofs.laws.waits_on.Goals as goal

pub returns : goal.returns
returns c = waits_on
