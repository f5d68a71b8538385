-- A manifest has exactly one plan, or one refusal.
use Rattle.suit_envelope.specs.Law.{OnePlan}
use Rattle.suit_envelope.proofs.Planned as planned

pub one_plan : OnePlan
one_plan = planned.one_plan
