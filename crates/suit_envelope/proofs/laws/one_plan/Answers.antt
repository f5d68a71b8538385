use Rattle.suit_envelope.proofs.Public.Plans.{one_plan}
use Rattle.suit_envelope.proofs.laws.one_plan.Goals as goal

pub returns : goal.returns
returns c = one_plan
