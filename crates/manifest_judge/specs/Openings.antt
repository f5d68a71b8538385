-- What is decided of a manifest before anything of it is run.
use Rattle.std.specs.Prelude.{◌≡◌, ◌<◌, ◌↔◌, IsTrue, List, length}
use Rattle.base_types.specs.declared.limits.TheConstants.{MANIFESTS_LIMIT}
use Rattle.evidence.specs.declared.ids.DeviceIds.{DeviceIds}
use Rattle.trust_anchors.specs.declared.anchors.Anchors.{Anchors}
use Rattle.suit_envelope.specs.declared.envelope.Envelope.{Envelope}
use Rattle.suit_envelope.specs.declared.manifest.Manifest.{Manifest}
use Rattle.suit_envelope.specs.declared.plan.Plan.{Plan}
use Rattle.suit_envelope.specs.Envelopes.{EnvelopeIs}
use Rattle.suit_envelope.specs.Plans.{PlanIs}
use Rattle.suit_engine.specs.declared.outcome.Fetched.{Fetched}
use Rattle.suit_engine.specs.Runs.{IsFor}
use Rattle.suit_engine.specs.Suspended.{GoesOn}
use Rattle.device_state.specs.declared.heads.RowHead.{RowHead}
use Rattle.manifest_judge.specs.declared.word.Word.{Word}
use Rattle.manifest_judge.specs.declared.word.Word.TheVariants.{Form, Digest, Signature, Sequence, Command}
use Rattle.manifest_judge.specs.declared.candidate.Target.{Target}
use Rattle.manifest_judge.specs.declared.candidate.Candidate.{Candidate}
use Rattle.manifest_judge.specs.declared.candidate.Entry.{Entry}
use Rattle.manifest_judge.specs.declared.candidate.Entry.TheVariants as entries
use Rattle.manifest_judge.specs.Stages.{Tested, Sought}
use Rattle.manifest_judge.specs.Subjects.{Subject}
use Rattle.manifest_judge.specs.Claims.{HoldsDigest, IsSigned, IsNewer, IsFree}

-- ---- the first five words: what a word comes to is `refused`, and what an envelope with its plan comes to is `behind`

-- `command`: the sequences of the manifest are read
abbrev pub FromPlan : (Word → Type 0) → (Plan → Type 0) → Envelope → Type 0
FromPlan refused behind e = Sought (λ plan. PlanIs plan e.manifest) (refused Command) behind

-- `sequence`: each number that is kept for the manifest is below its own
abbrev pub FromSequence : List RowHead → (Word → Type 0) → (Plan → Type 0) → Envelope → Type 0
FromSequence rows refused behind e = Tested (IsNewer rows e.manifest) (refused Sequence) (FromPlan refused behind e)

-- `signature`: an author signed the digest
abbrev pub FromSignature : Anchors → List RowHead → (Word → Type 0) → (Plan → Type 0) → Envelope → Type 0
FromSignature anchors rows refused behind e = Tested (IsSigned anchors e) (refused Signature) (FromSequence rows refused behind e)

-- `digest`: the digest is that of the manifest
abbrev pub FromDigest : Anchors → List RowHead → (Word → Type 0) → (Plan → Type 0) → Envelope → Type 0
FromDigest anchors rows refused behind e = Tested (HoldsDigest e) (refused Digest) (FromSignature anchors rows refused behind e)

-- the bytes are an envelope, or `form` is refused
abbrev pub FromEnvelope : Subject → (Word → Type 0) → (Envelope → Plan → Type 0) → Type 0
FromEnvelope s refused behind =
    Sought (λ e. EnvelopeIs e s.bytes) (refused Form) (λ e. FromDigest s.config.anchors s.rows refused (behind e) e)

-- `form`: it is one of the first eight, and the bytes are an envelope
abbrev pub Opened : Subject → (Word → Type 0) → (Envelope → Plan → Type 0) → Type 0
Opened s refused behind = Tested (s.place < MANIFESTS_LIMIT) (refused Form) (FromEnvelope s refused behind)

-- ---- what is kept of an envelope that was opened

-- the parts of a manifest's row, and whether all components that it lists are free
pub record IsTarget (rows : List RowHead) (m : Manifest) (t : Target) : Type 0 where
  pub id_is : t.id ≡ m.id
  pub sequence_is : t.sequence ≡ m.sequence
  pub components_are : t.components ≡ m.components
  pub free_is : IsTrue t.free ↔ IsFree rows m

-- it runs the plan of the envelope on the device, and has the parts of the row
pub record IsCandidate (device : DeviceIds) (rows : List RowHead) (e : Envelope) (plan : Plan) (c : Candidate) : Type 0 where
  pub runs : IsFor c.engine (length e.manifest.components) plan e.attached device
  pub target : IsTarget rows e.manifest c.target

-- what may be run is the candidate of the envelope and the plan
abbrev pub Enters : DeviceIds → List RowHead → Envelope → Plan → Entry → Type 0
Enters device rows e plan (entries.Goes candidate) = IsCandidate device rows e plan candidate
Enters device rows e plan (entries.Fails word) = ⊥

-- the word that fails before anything is run, or what may be run
abbrev pub Begins : Subject → Entry → Type 0
Begins s entry = Opened s (λ word. entry ≡ entries.Fails word) (λ e plan. Enters s.config.device s.rows e plan entry)

-- ---- going on

-- with these entries, and with more behind them, it goes on as a run from the start
abbrev pub CanGoOn : Candidate → List Fetched → Type 0
CanGoOn candidate env = GoesOn candidate.engine env

-- what may be run may be run with any entries
abbrev pub IsFresh : Entry → Type 0
IsFresh (entries.Goes candidate) = (env : List Fetched) → CanGoOn candidate env
IsFresh (entries.Fails word) = Unit {0}
