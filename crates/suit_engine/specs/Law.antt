-- What holds of every run.
use Rattle.std.specs.Prelude.{ℕ, ◌≡◌, ◌≢◌, List, ◌++◌}
use Rattle.std.specs.List.{All}
use Rattle.fetch_uri.specs.Address.{IsUri}
use Rattle.evidence.specs.declared.ids.DeviceIds.{DeviceIds}
use Rattle.suit_envelope.specs.declared.envelope.Attached.{Attached}
use Rattle.suit_envelope.specs.declared.plan.Plan.{Plan}
use Rattle.suit_engine.specs.declared.outcome.Built.{Built}
use Rattle.suit_engine.specs.declared.outcome.Fetched.{Fetched}
use Rattle.suit_engine.specs.declared.outcome.Outcome.{Outcome}
use Rattle.suit_engine.specs.declared.outcome.Outcome.TheVariants.{Done, Need}
use Rattle.suit_engine.specs.Contents.{Contents}
use Rattle.suit_engine.specs.Runs.{Runs}
use Rattle.suit_engine.specs.Suspended.{GoesOn}

-- the one outcome that has a property
pub record IsOnly (P : Outcome → Type 0) : Type 0 where
  pub outcome : Outcome
  pub has : P outcome
  pub alone : (other : Outcome) → P other → other ≡ outcome

-- a run has exactly one outcome
abbrev pub OneOutcome : Type 0
OneOutcome = (count : ℕ) (plan : Plan) (attached : List Attached) (device : DeviceIds) (env : List Fetched) → IsOnly (Runs count plan attached device env)

-- a run that is done is done with the same components where more was fetched behind what it had
abbrev pub DoneStays : Type 0
DoneStays = (count : ℕ) (plan : Plan) (attached : List Attached) (device : DeviceIds) (env more : List Fetched) (all : List Built)
    → Runs count plan attached device env (Done all) → Runs count plan attached device (env ++ more) (Done all)

-- a URI that can be fetched, and for which nothing was fetched yet
pub record IsAwaited (env : List Fetched) (uri : List ℕ) : Type 0 where
  pub address : IsUri uri
  pub unknown : All (λ f. f.uri ≢ uri) env

-- a URI that a run needs is such
abbrev pub NeedsAnAddress : Type 0
NeedsAnAddress = (count : ℕ) (plan : Plan) (attached : List Attached) (device : DeviceIds) (env : List Fetched) (uri : List ℕ)
    → Runs count plan attached device env (Need uri) → IsAwaited env uri

-- an engine that goes on with some entries as a run from the start goes, does so with more behind them
abbrev pub WaitsOn : Type 0
WaitsOn = (e : Contents) (env more : List Fetched) → GoesOn e env → GoesOn e (env ++ more)
