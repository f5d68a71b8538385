use Rattle.std.proofs.Common.{◌≡◌, None, sym, subst}
use Rattle.std.specs.Prelude.{IfOk}
use Rattle.suit_engine.specs.Contents.{Contents}
use Rattle.suit_engine.specs.Steps.{Step}
use Rattle.suit_engine.specs.Runs.{outcome_of, run, Runs, RunsFor}
use Rattle.suit_engine.specs.Suspended.{pass_goes_on, world_of, GoesOn}
use Rattle.suit_engine.proofs.Levels.{passes_same}
use Rattle.suit_engine.proofs.Engines.{answered_goes_on, resumed_now, resumed_later}
use Rattle.suit_engine.proofs.engine.Engine.resume.Goals as goal

pub returns-clause-outcome : goal.returns-clause-outcome
unfolding Runs
returns-clause-outcome c =
    let i = c.self.inside in
    let held : Contents = record { count = i.count; plan = i.plan; attached = i.attached; device = i.device; waiting = i.waiting } in
    let env = c.args.env.now in
    let waiting = c.in-Some.waiting in
    let G : Contents → Type 0 = λ v. GoesOn v env in
    let S : Step → Type 0 = λ step. IfOk c.leave.result (λ o. outcome_of step ≡ o) in
    let V : Contents → Type 0 = λ v. IfOk c.leave.result (RunsFor v env) in
    subst V c.self.view_is
    (subst S (resumed_now held env waiting (sym c.in-Some.ensures.value) (subst G (sym c.self.view_is) c.requires))
    (c.leave.ensures.outcome (pass_goes_on (world_of held env) i.plan waiting.pass waiting.place) c.go_on-answer.ensures.gives))

pub returns-clause-waits : goal.returns-clause-waits
returns-clause-waits c =
    let i = c.self.inside in
    let held : Contents = record { count = i.count; plan = i.plan; attached = i.attached; device = i.device; waiting = i.waiting } in
    let env = c.args.env.now in
    let waiting = c.in-Some.waiting in
    let G : Contents → Type 0 = λ v. GoesOn v env in
    let fresh : Contents = record held { waiting = None } in
    subst G (sym c.leave.ensures.left)
    (answered_goes_on fresh env c.go_on-answer.result
    (passes_same (world_of held env) i.plan (λ w. pass_goes_on w i.plan waiting.pass waiting.place) (λ w. run w i.plan i.count)
    (resumed_later held env waiting (sym c.in-Some.ensures.value) (subst G (sym c.self.view_is) c.requires)) c.go_on-answer.result c.go_on-answer.ensures.waits))
