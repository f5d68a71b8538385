use Rattle.std.proofs.Common.{sym, ap, subst, ◌∙◌}
use Rattle.suit_engine.specs.States.{at_index}
use Rattle.suit_engine.specs.Steps.{Step, and_then}
use Rattle.suit_engine.specs.Acts.{World, later}
use Rattle.suit_engine.specs.Passes.{behind}
use Rattle.suit_engine.specs.Runs.{sequence_of, pass_does, passes_do}
use Rattle.suit_engine.specs.Answers.{GivesPass}
use Rattle.suit_engine.proofs.Stays.{kept_sequence}
use Rattle.suit_engine.proofs.Suspending.{kept_went}
use Rattle.suit_engine.proofs.Levels.{behind_do, pass_waits, passes_same}
use Rattle.suit_engine.proofs.passes.+run_behind.Goals as goal

pub returns-in-Ok-clause-gives : goal.returns-in-Ok-clause-gives
returns-in-Ok-clause-gives t c =
    let w = c.args.world.now in
    let plan = c.args.plan.now in
    let after = c.in-Some.pass in
    let P : Step → Type 0 = λ step. GivesPass step c.run_behind.result in
    subst P (sym (behind_do w plan c.args.pass after c.args.state (sym c.in-Some.ensures) ∙ ap (and_then (passes_do w plan (behind after))) c.in-Ok.ensures.gives)) c.run_behind.ensures.gives

pub returns-in-Ok-clause-waits : goal.returns-in-Ok-clause-waits
returns-in-Ok-clause-waits t c =
    let w = c.args.world.now in
    let plan = c.args.plan.now in
    let after = c.in-Some.pass in
    let s = c.args.state in
    passes_same w plan (λ v. passes_do v plan (behind after) c.in-Ok.state) (λ v. passes_do v plan (behind c.args.pass) s)
    (λ more.
    let v : World = later w more in
    sym (behind_do v plan c.args.pass after s (sym c.in-Some.ensures)
    ∙ ap (and_then (passes_do v plan (behind after)))
    (kept_went w.env (pass_does w plan after s) (pass_does v plan after s) c.in-Ok.state (kept_sequence w more (sequence_of plan after) (at_index 0 s)) c.in-Ok.ensures.gives)))
    c.run_behind.result c.run_behind.ensures.waits

pub returns-in-Err-clause-waits : goal.returns-in-Err-clause-waits
returns-in-Err-clause-waits t c =
    let w = c.args.world.now in
    let plan = c.args.plan.now in
    let after = c.in-Some.pass in
    let s = c.args.state in
    pass_waits w plan after (λ v. pass_does v plan after s) (λ v. passes_do v plan (behind c.args.pass) s)
    (λ more. sym (behind_do (later w more) plan c.args.pass after s (sym c.in-Some.ensures))) c.in-Err.stop c.in-Err.ensures.waits
