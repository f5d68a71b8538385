use Rattle.suit_engine.specs.States.{untouched}
use Rattle.suit_engine.proofs.Lists.{lent, lent_missed}
use Rattle.suit_engine.proofs.state.State.part.Goals as goal

pub returns-clause-found : goal.returns-clause-found
returns-clause-found c = lent c.args.self.now.parts c.args.index untouched c.get.result c.get.ensures.value

pub returns-clause-past : goal.returns-clause-past
returns-clause-past c = lent_missed c.args.self.now.parts c.args.index c.get.result c.get.ensures.value
