use Rattle.agent_core.proofs.OneTurn.{one_turn}
use Rattle.agent_core.proofs.Ranges.{ranges_hold}
use Rattle.agent_core.proofs.SomeTurn.{some_turn}
use Rattle.agent_core.proofs.laws.one_turn.Goals as goal

pub returns-clause-one : goal.returns-clause-one
returns-clause-one c = one_turn

pub returns-clause-some : goal.returns-clause-some
returns-clause-some c = some_turn

pub returns-clause-ranges : goal.returns-clause-ranges
returns-clause-ranges c = ranges_hold
