-- How a run that waits goes on.
use Rattle.std.specs.Prelude.{◌≡◌, List, ◌++◌, Option, Some, None, Result, Ok, Err, IsSome}
use Rattle.suit_envelope.specs.declared.plan.Plan.{Plan}
use Rattle.suit_engine.specs.declared.outcome.Fetched.{Fetched}
use Rattle.suit_engine.specs.declared.outcome.Outcome.{Outcome}
use Rattle.suit_engine.specs.declared.outcome.Outcome.TheVariants.{Done, Need, Failed}
use Rattle.suit_engine.specs.declared.pass.Pass.{Pass}
use Rattle.suit_engine.specs.declared.place.Place.{Place}
use Rattle.suit_engine.specs.declared.place.Waiting.{Waiting}
use Rattle.suit_engine.specs.Steps.{Step, and_then}
use Rattle.suit_engine.specs.Acts.{World}
use Rattle.suit_engine.specs.Places.{sequence_goes_on}
use Rattle.suit_engine.specs.Passes.{behind}
use Rattle.suit_engine.specs.Contents.{Contents}
use Rattle.suit_engine.specs.Runs.{sequence_of, passes_do, run}

-- what a place in the sequence of a pass comes to, and then the passes behind
abbrev pub pass_goes_on : World → Plan → Pass → Place → Step
pass_goes_on w plan pass place = and_then (passes_do w plan (behind pass)) (sequence_goes_on w (sequence_of plan pass) place)

-- what an engine has around it, with these entries
abbrev pub world_of : Contents → List Fetched → World
world_of e env = record { attached = e.attached; device = e.device; env = env }

-- the run from the start of what an engine is for
abbrev pub run_of : Contents → List Fetched → Step
run_of e env = run (world_of e env) e.plan e.count

-- from where the run waits; where nothing waits, from the start
abbrev pub going_on_from : Option Waiting → Contents → List Fetched → Step
going_on_from None e env = run_of e env
going_on_from (Some waiting) e env = pass_goes_on (world_of e env) e.plan waiting.pass waiting.place

-- what becomes of an engine that goes on with these entries
abbrev pub going_on : Contents → List Fetched → Step
going_on e env = going_on_from e.waiting e env

-- With these entries, and with any behind them, going on is what a run from the start is.
unfoldable pub GoesOn : Contents → List Fetched → Type 0
GoesOn e env = (more : List Fetched) → going_on e (env ++ more) ≡ run_of e (env ++ more)

-- a run waits exactly where it has the outcome that a payload is needed
abbrev pub WaitsAfter : {E : Type 0} → Result Outcome E → Contents → Type 0
WaitsAfter (Ok (Done all)) e = e.waiting ≡ None
WaitsAfter (Ok (Failed word)) e = e.waiting ≡ None
WaitsAfter (Ok (Need uri)) e = IsSome e.waiting
WaitsAfter (Err other) e = e.waiting ≡ None
