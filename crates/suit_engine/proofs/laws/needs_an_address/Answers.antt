use Rattle.suit_engine.proofs.Whole.{needs_an_address}
use Rattle.suit_engine.proofs.laws.needs_an_address.Goals as goal

pub returns : goal.returns
returns c = needs_an_address
