-- The run of a manifest: six sequences from nothing, and what comes of it.
use Rattle.std.specs.Prelude.{ℕ, ◌≡◌, List, [], ◌∷◌, map, replicate}
use Rattle.evidence.specs.declared.ids.DeviceIds.{DeviceIds}
use Rattle.suit_commands.specs.Sequences.{Sequence}
use Rattle.suit_envelope.specs.declared.envelope.Attached.{Attached}
use Rattle.suit_envelope.specs.declared.plan.Plan.{Plan}
use Rattle.suit_engine.specs.declared.outcome.Built.{Built}
use Rattle.suit_engine.specs.declared.outcome.Fetched.{Fetched}
use Rattle.suit_engine.specs.declared.outcome.Outcome.{Outcome}
use Rattle.suit_engine.specs.declared.outcome.Outcome.TheVariants.{Done, Need, Failed}
use Rattle.suit_engine.specs.declared.pass.Pass.{Pass}
use Rattle.suit_engine.specs.declared.pass.Pass.TheVariants.{SharedBeforeFetch, Fetch, SharedBeforeInstall, Install, SharedBeforeValidate, Validate}
use Rattle.suit_engine.specs.declared.state.Part.{Part}
use Rattle.suit_engine.specs.declared.state.State.{State}
use Rattle.suit_engine.specs.States.{untouched, at_index}
use Rattle.suit_engine.specs.Steps.{Step, Went, Fails, Needs, Act, in_turn}
use Rattle.suit_engine.specs.Acts.{World, do_all}
use Rattle.suit_engine.specs.Contents.{Contents}

-- the sequence of a pass
abbrev pub sequence_of : Plan → Pass → Sequence
sequence_of plan SharedBeforeFetch = plan.shared
sequence_of plan Fetch = plan.fetch
sequence_of plan SharedBeforeInstall = plan.shared
sequence_of plan Install = plan.install
sequence_of plan SharedBeforeValidate = plan.shared
sequence_of plan Validate = plan.validate

-- the passes in their order
abbrev pub passes : List Pass
passes = SharedBeforeFetch ∷ Fetch ∷ SharedBeforeInstall ∷ Install ∷ SharedBeforeValidate ∷ Validate ∷ []

-- the sequence of a pass, with the index back at 0
abbrev pub pass_does : World → Plan → Pass → Act
pass_does w plan pass s = do_all w (sequence_of plan pass) (at_index 0 s)

-- passes in turn
abbrev pub passes_do : World → Plan → List Pass → Act
passes_do w plan some = in_turn (map (pass_does w plan) some)

-- so many components of which nothing is known
abbrev pub beginning : ℕ → State
beginning count = record { index = 0; parts = replicate count untouched }

-- all passes, from the beginning
abbrev pub run : World → Plan → ℕ → Step
run w plan count = passes_do w plan passes (beginning count)

-- what is told of a component
abbrev pub built : Part → Built
built part = record { bytes = part.bytes; digest = part.setting.image_digest; size = part.setting.image_size }

-- what is told of a run
abbrev pub outcome_of : Step → Outcome
outcome_of (Went s) = Done (map built s.parts)
outcome_of (Fails word) = Failed word
outcome_of (Needs uri) = Need uri

-- The run of a plan on so many components, with these payloads attached, on this device and with what was fetched, has this outcome.
unfoldable pub Runs : ℕ → Plan → List Attached → DeviceIds → List Fetched → Outcome → Type 0
Runs count plan attached device env outcome = outcome_of (run (record { attached = attached; device = device; env = env }) plan count) ≡ outcome

-- what an engine is for
pub record IsFor (e : Contents) (count : ℕ) (plan : Plan) (attached : List Attached) (device : DeviceIds) : Type 0 where
  pub count_is : e.count ≡ count
  pub plan_is : e.plan ≡ plan
  pub attached_is : e.attached ≡ attached
  pub device_is : e.device ≡ device

-- both are for the same
abbrev pub SameRun : Contents → Contents → Type 0
SameRun old new = IsFor new old.count old.plan old.attached old.device

-- the outcome of what an engine is for
abbrev pub RunsFor : Contents → List Fetched → Outcome → Type 0
RunsFor e env outcome = Runs e.count e.plan e.attached e.device env outcome
