use Rattle.std.proofs.Common.{sym, ap, subst, ◌∙◌}
use Rattle.suit_engine.specs.declared.state.State.{State}
use Rattle.suit_engine.specs.Acts.{World}
use Rattle.suit_engine.specs.Contents.{Contents}
use Rattle.suit_engine.specs.Runs.{passes, passes_do, run}
use Rattle.suit_engine.specs.Suspended.{world_of, run_of}
use Rattle.suit_engine.specs.Answers.{GivesPass, SuspendsPass}
use Rattle.suit_engine.proofs.engine.Engine.run.Goals as goal

pub returns-in-Ok-clause-gives : goal.returns-in-Ok-clause-gives
returns-in-Ok-clause-gives c =
    let i = c.self.inside in
    let held : Contents = record { count = i.count; plan = i.plan; attached = i.attached; device = i.device; waiting = i.waiting } in
    let env = c.args.env.now in
    let W : World → Type 0 = λ w. GivesPass (passes_do w i.plan passes c.in-Ok.state) c.run_passes.result in
    let S : State → Type 0 = λ s. GivesPass (passes_do (world_of held env) i.plan passes s) c.run_passes.result in
    let V : Contents → Type 0 = λ v. GivesPass (run_of v env) c.run_passes.result in
    subst V c.self.view_is (subst S c.in-Ok.ensures (subst W (c.around.ensures ∙ ap (λ v. world_of v env) (sym c.self.view_is)) c.run_passes.ensures.gives))

pub returns-in-Ok-clause-waits : goal.returns-in-Ok-clause-waits
returns-in-Ok-clause-waits c =
    let i = c.self.inside in
    let held : Contents = record { count = i.count; plan = i.plan; attached = i.attached; device = i.device; waiting = i.waiting } in
    let env = c.args.env.now in
    let W : World → Type 0 = λ w. SuspendsPass w i.plan (λ v. passes_do v i.plan passes c.in-Ok.state) c.run_passes.result in
    let S : State → Type 0 = λ s. SuspendsPass (world_of held env) i.plan (λ v. passes_do v i.plan passes s) c.run_passes.result in
    let V : Contents → Type 0 = λ v. SuspendsPass (world_of v env) v.plan (λ w. run w v.plan v.count) c.run_passes.result in
    subst V c.self.view_is (subst S c.in-Ok.ensures (subst W (c.around.ensures ∙ ap (λ v. world_of v env) (sym c.self.view_is)) c.run_passes.ensures.waits))
