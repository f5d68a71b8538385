use Rattle.std.proofs.Common.{refl, sym, ap}
use Rattle.suit_engine.specs.Steps.{and_then}
use Rattle.suit_engine.specs.Acts.{World, later}
use Rattle.suit_engine.specs.Passes.{behind}
use Rattle.suit_engine.specs.Places.{sequence_goes_on}
use Rattle.suit_engine.specs.Runs.{sequence_of, passes_do}
use Rattle.suit_engine.specs.Suspended.{pass_goes_on}
use Rattle.suit_engine.proofs.Goings.{kept_place}
use Rattle.suit_engine.proofs.Suspending.{kept_went}
use Rattle.suit_engine.proofs.Levels.{pass_waits, passes_same}
use Rattle.suit_engine.proofs.passes.go_on.Goals as goal

pub returns-in-Ok-clause-waits : goal.returns-in-Ok-clause-waits
returns-in-Ok-clause-waits c =
    let w = c.args.world.now in
    let plan = c.args.plan.now in
    let pass = c.args.waiting.pass in
    let place = c.args.waiting.place in
    passes_same w plan (λ v. passes_do v plan (behind pass) c.in-Ok.state) (λ v. pass_goes_on v plan pass place)
    (λ more.
    let v : World = later w more in
    sym (ap (and_then (passes_do v plan (behind pass)))
    (kept_went w.env (sequence_goes_on w (sequence_of plan pass) place) (sequence_goes_on v (sequence_of plan pass) place) c.in-Ok.state
    ((kept_place w more place).sequence (sequence_of plan pass)) c.in-Ok.ensures.gives)))
    c.run_behind.result c.run_behind.ensures.waits

pub returns-in-Err-clause-waits : goal.returns-in-Err-clause-waits
returns-in-Err-clause-waits c =
    let w = c.args.world.now in
    let plan = c.args.plan.now in
    let pass = c.args.waiting.pass in
    let place = c.args.waiting.place in
    pass_waits w plan pass (λ v. sequence_goes_on v (sequence_of plan pass) place) (λ v. pass_goes_on v plan pass place) (λ more. refl) c.in-Err.stop c.in-Err.ensures.waits
