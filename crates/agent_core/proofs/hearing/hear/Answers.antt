use Rattle.agent_core.proofs.Hears.{hears_other}
use Rattle.agent_core.proofs.hearing.hear.Goals as goal

pub returns-in_default : goal.returns-in_default
returns-in_default g c = hears_other _ c.args.event.now c.in_default.not-Message
