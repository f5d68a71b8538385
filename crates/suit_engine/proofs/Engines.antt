-- What an engine holds goes on as its run does.
use Rattle.std.proofs.Common.{◌≡◌, List, [], ◌++◌, append-nil, Option, Some, refl, sym, ap, subst, ◌∙◌}
use Rattle.std.specs.Prelude.{Result, Ok, Err}
use Rattle.suit_engine.specs.declared.outcome.Fetched.{Fetched}
use Rattle.suit_engine.specs.declared.pass.Pass.{Pass}
use Rattle.suit_engine.specs.declared.place.Waiting.{Waiting}
use Rattle.suit_engine.specs.declared.state.State.{State}
use Rattle.suit_engine.specs.declared.stop.Stop.{Stop}
use Rattle.suit_engine.specs.declared.stop.Stop.TheVariants as stops
use Rattle.suit_engine.specs.declared.stop.Stopped.{Stopped}
use Rattle.suit_engine.specs.Contents.{Contents}
use Rattle.suit_engine.specs.Runs.{run}
use Rattle.suit_engine.specs.Suspended.{pass_goes_on, world_of, run_of, going_on_from, going_on, GoesOn}
use Rattle.suit_engine.specs.Answers.{Waits, SuspendsPass, waiting_at, waiting_after}
use Rattle.suit_engine.proofs.Suspending.{Later}

module _ (e : Contents) (env : List Fetched) where
  stopped_goes_on : (pass : Pass) (stop : Stop) → Waits (world_of e env) (λ w place. pass_goes_on w e.plan pass place) (λ w. run w e.plan e.count) stop
      → GoesOn (record e { waiting = waiting_at pass stop }) env
  unfolding GoesOn
  stopped_goes_on pass (stops.Failed word) waits = λ more. refl
  stopped_goes_on pass (stops.Needed uri place) waits = λ more. waits more
  stopped_goes_on pass stops.NoMemory waits = λ more. refl

  -- with where a run waits behind its answer
  pub answered_goes_on : (answer : Result State Stopped) → SuspendsPass (world_of e env) e.plan (λ w. run w e.plan e.count) answer
      → GoesOn (record e { waiting = waiting_after answer }) env
  unfolding GoesOn
  answered_goes_on (Ok s) waits = λ more. refl
  answered_goes_on (Err stopped) waits = stopped_goes_on stopped.pass stopped.stop waits

  module _ (waiting : Waiting) (is : e.waiting ≡ Some waiting) (goes : GoesOn e env) where
    -- from where it waits, with these entries
    pub resumed_now : pass_goes_on (world_of e env) e.plan waiting.pass waiting.place ≡ run_of e env
    unfolding GoesOn
    resumed_now =
        let P : List Fetched → Type 0 = λ all. going_on e all ≡ run_of e all in
        ap (λ (o : Option Waiting). going_on_from o e env) (sym is) ∙ subst P (append-nil env) (goes [])

    -- and with more
    pub resumed_later : Later (world_of e env) (λ w. pass_goes_on w e.plan waiting.pass waiting.place) (λ w. run w e.plan e.count)
    unfolding GoesOn
    resumed_later more = ap (λ (o : Option Waiting). going_on_from o e (env ++ more)) (sym is) ∙ goes more
