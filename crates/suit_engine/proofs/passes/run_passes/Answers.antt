use Rattle.std.proofs.Common.{refl, sym, ap}
use Rattle.suit_engine.specs.declared.pass.Pass.TheVariants.{SharedBeforeFetch}
use Rattle.suit_engine.specs.States.{at_index}
use Rattle.suit_engine.specs.Steps.{and_then}
use Rattle.suit_engine.specs.Acts.{World, later}
use Rattle.suit_engine.specs.Passes.{behind}
use Rattle.suit_engine.specs.Runs.{sequence_of, passes, pass_does, passes_do}
use Rattle.suit_engine.proofs.Stays.{kept_sequence}
use Rattle.suit_engine.proofs.Suspending.{kept_went}
use Rattle.suit_engine.proofs.Levels.{pass_waits, passes_same}
use Rattle.suit_engine.proofs.passes.run_passes.Goals as goal

pub returns-in-Ok-clause-waits : goal.returns-in-Ok-clause-waits
returns-in-Ok-clause-waits c =
    let w = c.args.world.now in
    let plan = c.args.plan.now in
    let s = c.args.state in
    passes_same w plan (λ v. passes_do v plan (behind SharedBeforeFetch) c.in-Ok.state) (λ v. passes_do v plan passes s)
    (λ more.
    let v : World = later w more in
    sym (ap (and_then (passes_do v plan (behind SharedBeforeFetch)))
    (kept_went w.env (pass_does w plan SharedBeforeFetch s) (pass_does v plan SharedBeforeFetch s) c.in-Ok.state
    (kept_sequence w more (sequence_of plan SharedBeforeFetch) (at_index 0 s)) c.in-Ok.ensures.gives)))
    c.run_behind.result c.run_behind.ensures.waits

pub returns-in-Err-clause-waits : goal.returns-in-Err-clause-waits
returns-in-Err-clause-waits c =
    let w = c.args.world.now in
    let plan = c.args.plan.now in
    let s = c.args.state in
    pass_waits w plan SharedBeforeFetch (λ v. pass_does v plan SharedBeforeFetch s) (λ v. passes_do v plan passes s) (λ more. refl) c.in-Err.stop c.in-Err.ensures.waits
