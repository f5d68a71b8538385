use Rattle.std.proofs.Common.{ap, sym}
use Rattle.agent_core.specs.Views.{AgentView}
use Rattle.agent_run.proofs.run.run_store.Goals as goal

pub returns-in-Ok-clause-exactly : goal.returns-in-Ok-clause-exactly
returns-in-Ok-clause-exactly g c = λ told clean kept nothing memory frames end events.
    let same = ap (λ (a : AgentView _). a.store) c.in-Ok.ensures in
    rw (sym same) (c.run_device.ensures.exactly told clean (rw same kept) nothing memory frames end events)
