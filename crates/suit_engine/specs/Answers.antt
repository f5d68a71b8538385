-- What the code answers for an act.
use Rattle.std.specs.Prelude.{ℕ, ◌≡◌, List, map, drop, Option, Some, None, Result, Ok, Err}
use Rattle.suit_commands.specs.declared.command.Command.{Command, out-Command}
use Rattle.suit_commands.specs.declared.command.Command.TheOpen.{Command-F}
use Rattle.suit_envelope.specs.declared.plan.Plan.{Plan}
use Rattle.suit_engine.specs.declared.outcome.Fetched.{Fetched}
use Rattle.suit_engine.specs.declared.outcome.Word.{Word}
use Rattle.suit_engine.specs.declared.outcome.Word.TheVariants.{Condition, Payload, Fetches}
use Rattle.suit_engine.specs.declared.pass.Pass.{Pass}
use Rattle.suit_engine.specs.declared.place.Place.{Place}
use Rattle.suit_engine.specs.declared.place.Place.TheVariants as p
use Rattle.suit_engine.specs.declared.place.Waiting.{Waiting}
use Rattle.suit_engine.specs.declared.stop.Stop.{Stop}
use Rattle.suit_engine.specs.declared.stop.Stop.TheVariants as stops
use Rattle.suit_engine.specs.declared.stop.Stopped.{Stopped}
use Rattle.suit_engine.specs.declared.state.State.{State}
use Rattle.suit_engine.specs.declared.world.Found.{Found}
use Rattle.suit_engine.specs.declared.world.Found.TheVariants.{Bytes, Unknown, TooMany}
use Rattle.suit_engine.specs.Steps.{Step, Went, Fails, Needs, Act, tried}
use Rattle.suit_engine.specs.Acts.{World, later, takes, do_all}
use Rattle.suit_engine.specs.Suspended.{pass_goes_on}

-- the run stops where its step is this one; nothing is said where no memory was left
abbrev pub Stops : Step → Stop → Type 0
Stops step (stops.Failed word) = step ≡ Fails word
Stops step (stops.Needed uri place) = step ≡ Needs uri
Stops step stops.NoMemory = Unit {0}

-- the answer where the step is this one
abbrev pub Gives : Step → Result State Stop → Type 0
Gives step (Ok s) = step ≡ Went s
Gives step (Err stop) = Stops step stop

-- a run that waits has a place from which it goes on, with whatever more is fetched, as it runs with that
abbrev pub Waits : World → (World → Place → Step) → (World → Step) → Stop → Type 0
Waits w goes_on runs (stops.Failed word) = Unit {0}
Waits w goes_on runs (stops.Needed uri place) = (more : List Fetched) → goes_on (later w more) place ≡ runs (later w more)
Waits w goes_on runs stops.NoMemory = Unit {0}

-- the same of an answer
abbrev pub Suspends : World → (World → Place → Step) → (World → Step) → Result State Stop → Type 0
Suspends w goes_on runs (Ok s) = Unit {0}
Suspends w goes_on runs (Err stop) = Waits w goes_on runs stop

-- the run does not wait
abbrev pub NeverStopsToWait : Stop → Type 0
NeverStopsToWait (stops.Failed word) = Unit {0}
NeverStopsToWait (stops.Needed uri place) = ⊥
NeverStopsToWait stops.NoMemory = Unit {0}

-- the same of an answer
abbrev pub NeverWaits : Result State Stop → Type 0
NeverWaits (Ok s) = Unit {0}
NeverWaits (Err stop) = NeverStopsToWait stop

-- a fetch that waits is to be done from this state
abbrev pub WaitsFrom : State → Stop → Type 0
WaitsFrom s (stops.Failed word) = Unit {0}
WaitsFrom s (stops.Needed uri place) = place ≡ p.Fetch s
WaitsFrom s stops.NoMemory = Unit {0}

-- the same of an answer
abbrev pub SuspendsAt : State → Result State Stop → Type 0
SuspendsAt s (Ok t) = Unit {0}
SuspendsAt s (Err stop) = WaitsFrom s stop

-- a try-each catches the word
abbrev pub IsCaught : Word → Type 0
IsCaught Condition = Unit {0}
IsCaught Payload = Unit {0}
IsCaught Fetches = ⊥

-- a try-each does not catch the stop
abbrev pub GoesThrough : Stop → Type 0
GoesThrough (stops.Failed word) = word ≡ Fetches
GoesThrough (stops.Needed uri place) = Unit {0}
GoesThrough stops.NoMemory = Unit {0}

-- the word of a stop that a try-each catches, or else the stop itself
abbrev pub CaughtAs : Stop → Result Word Stop → Type 0
CaughtAs stop (Ok word) = (stop ≡ stops.Failed word) × IsCaught word
CaughtAs stop (Err other) = (other ≡ stop) × GoesThrough other

-- the same stop, its place one level further out, or memory ran out on the way
abbrev pub IsSeenFrom : (Place → Place) → Stop → Stop → Type 0
IsSeenFrom out stop (stops.Failed word) = stop ≡ stops.Failed word
IsSeenFrom out stop (stops.Needed uri place) = (within : Place) × (stop ≡ stops.Needed uri within) × (place ≡ out within)
IsSeenFrom out stop stops.NoMemory = Unit {0}

-- the answer of passes where their step is this one
abbrev pub GivesPass : Step → Result State Stopped → Type 0
GivesPass step (Ok s) = step ≡ Went s
GivesPass step (Err stopped) = Stops step stopped.stop

-- passes that wait go on, in the pass and at the place, with whatever more is fetched, as they run with that
abbrev pub SuspendsPass : World → Plan → (World → Step) → Result State Stopped → Type 0
SuspendsPass w plan runs (Ok s) = Unit {0}
SuspendsPass w plan runs (Err stopped) = Waits w (λ v place. pass_goes_on v plan stopped.pass place) runs stopped.stop

-- where a run waits behind an answer
abbrev pub waiting_at : Pass → Stop → Option Waiting
waiting_at pass (stops.Failed word) = None
waiting_at pass (stops.Needed uri place) = Some (record { pass = pass; place = place })
waiting_at pass stops.NoMemory = None

abbrev pub waiting_after : Result State Stopped → Option Waiting
waiting_after (Ok s) = None
waiting_after (Err stopped) = waiting_at stopped.pass stopped.stop

-- what a fetch finds is what it does to every state
abbrev pub FindsAs : Act → Found → Type 0
FindsAs act (Bytes bytes) = (s : State) → act s ≡ takes bytes s
FindsAs act (Unknown uri) = (s : State) → act s ≡ Needs uri
FindsAs act TooMany = (s : State) → act s ≡ Fails Fetches

-- what a command tries from an alternative on, by its layer, where the word of those before is this one
abbrev pub tries_by : World → ℕ → Word → Command-F Command → Act
tries_by w first word (Command-F.TryEach alternatives null_last) s = tried null_last word (map (do_all w) (drop first alternatives)) s
tries_by w first word _ s = Went s

-- what a command tries from an alternative on; one that has no alternatives tries nothing
abbrev pub tries : World → Command → ℕ → Word → Act
tries w command first word = tries_by w first word (out-Command command)
