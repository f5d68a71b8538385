use Rattle.std.proofs.Common.{refl, inr}
use Rattle.agent_core.specs.declared.refusal.Refusal.TheVariants.{NotCose}
use Rattle.agent_core.proofs.Hears.{hears_refused}
use Rattle.agent_core.proofs.hearing.hear_bytes.Goals as goal

pub returns-in-Err : goal.returns-in-Err
returns-in-Err g c = hears_refused _ NotCose (inr (record { fault = c.in-Err.field-0; refused = (c.in-Err.ensures.refused c.in-Err.field-0).0 refl; answer_is = refl }))
