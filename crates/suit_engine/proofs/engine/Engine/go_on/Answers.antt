use Rattle.std.proofs.Common.{sym, ap, subst, ◌∙◌}
use Rattle.suit_engine.specs.Acts.{World}
use Rattle.suit_engine.specs.Contents.{Contents}
use Rattle.suit_engine.specs.Suspended.{pass_goes_on, world_of}
use Rattle.suit_engine.specs.Answers.{GivesPass, SuspendsPass}
use Rattle.suit_engine.proofs.engine.Engine.go_on.Goals as goal

pub returns-clause-gives : goal.returns-clause-gives
returns-clause-gives c =
    let i = c.self.inside in
    let held : Contents = record { count = i.count; plan = i.plan; attached = i.attached; device = i.device; waiting = i.waiting } in
    let env = c.args.env.now in
    let waiting = c.args.waiting in
    let W : World → Type 0 = λ w. GivesPass (pass_goes_on w i.plan waiting.pass waiting.place) c.go_on.result in
    let V : Contents → Type 0 = λ v. GivesPass (pass_goes_on (world_of v env) v.plan waiting.pass waiting.place) c.go_on.result in
    subst V c.self.view_is (subst W (c.around.ensures ∙ ap (λ v. world_of v env) (sym c.self.view_is)) c.go_on.ensures.gives)

pub returns-clause-waits : goal.returns-clause-waits
returns-clause-waits c =
    let i = c.self.inside in
    let held : Contents = record { count = i.count; plan = i.plan; attached = i.attached; device = i.device; waiting = i.waiting } in
    let env = c.args.env.now in
    let waiting = c.args.waiting in
    let W : World → Type 0 = λ w. SuspendsPass w i.plan (λ v. pass_goes_on v i.plan waiting.pass waiting.place) c.go_on.result in
    let V : Contents → Type 0 = λ v. SuspendsPass (world_of v env) v.plan (λ w. pass_goes_on w v.plan waiting.pass waiting.place) c.go_on.result in
    subst V c.self.view_is (subst W (c.around.ensures ∙ ap (λ v. world_of v env) (sym c.self.view_is)) c.go_on.ensures.waits)
