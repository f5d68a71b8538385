use Rattle.std.proofs.Common.{None, sym, subst}
use Rattle.std.specs.Prelude.{IfOk}
use Rattle.suit_engine.specs.Contents.{Contents}
use Rattle.suit_engine.specs.Runs.{Runs, RunsFor}
use Rattle.suit_engine.specs.Suspended.{run_of, GoesOn}
use Rattle.suit_engine.proofs.Engines.{answered_goes_on}
use Rattle.suit_engine.proofs.engine.Engine.go.Goals as goal

pub returns-clause-outcome : goal.returns-clause-outcome
unfolding Runs
returns-clause-outcome c =
    let i = c.self.inside in
    let fresh : Contents = record { count = i.count; plan = i.plan; attached = i.attached; device = i.device; waiting = None } in
    let V : Contents → Type 0 = λ v. IfOk c.leave.result (RunsFor v c.args.env.now) in
    subst V c.self.view_is (c.leave.ensures.outcome (run_of fresh c.args.env.now) c.run-answer.ensures.gives)

pub returns-clause-waits : goal.returns-clause-waits
returns-clause-waits c =
    let i = c.self.inside in
    let fresh : Contents = record { count = i.count; plan = i.plan; attached = i.attached; device = i.device; waiting = None } in
    let V : Contents → Type 0 = λ v. GoesOn v c.args.env.now in
    subst V (sym c.leave.ensures.left) (answered_goes_on fresh c.args.env.now c.run-answer.result c.run-answer.ensures.waits)
