-- What holds of verdicts.
use Rattle.std.specs.Prelude.{ℕ, ◌≡◌, List, ◌++◌, map, Some, true}
use Rattle.std.specs.List.{AllByRecursion}
use Rattle.base_types.specs.Bytes.{IsBytes}
use Rattle.suit_commands.specs.declared.digest.Digest.{Digest}
use Rattle.suit_envelope.specs.declared.envelope.Envelope.{Envelope}
use Rattle.suit_envelope.specs.Envelopes.{EnvelopeIs}
use Rattle.suit_engine.specs.declared.outcome.Fetched.{Fetched}
use Rattle.suit_engine.specs.Law.{IsAwaited}
use Rattle.device_state.specs.declared.heads.RowHead.{RowHead}
use Rattle.device_state.specs.declared.rows.ManifestRow.{ManifestRow}
use Rattle.device_state.specs.declared.rows.ComponentRow.{ComponentRow}
use Rattle.device_state.specs.Valid.{IsRow, NoneTwice}
use Rattle.manifest_judge.specs.declared.word.Word.{Word}
use Rattle.manifest_judge.specs.declared.verdict.Verdict.{Verdict}
use Rattle.manifest_judge.specs.declared.verdict.Verdict.TheVariants as verdicts
use Rattle.manifest_judge.specs.declared.candidate.Entry.TheVariants as entries
use Rattle.manifest_judge.specs.Subjects.{Subject}
use Rattle.manifest_judge.specs.Claims.{Matches, HoldsDigest, IsSigned, IsNewer, LeavesFree, IsFree}
use Rattle.manifest_judge.specs.Openings.{Begins}
use Rattle.manifest_judge.specs.Judging.{Judged}

-- the one verdict that a manifest has
pub record IsOnly (s : Subject) (env : List Fetched) : Type 0 where
  pub verdict : Verdict
  pub is : Judged s env verdict
  pub alone : (other : Verdict) → Judged s env other → other ≡ verdict

-- bytes have exactly one verdict
abbrev pub OneVerdict : Type 0
OneVerdict = (s : Subject) (env : List Fetched) → IsBytes s.bytes → IsOnly s env

-- a word that comes before anything is run is the verdict, whatever is fetched
abbrev pub WordsStay : Type 0
WordsStay = (s : Subject) (word : Word) → Begins s (entries.Fails word) → (env : List Fetched) → Judged s env (verdicts.Fails word)

-- a manifest that passes does so with the same row where more was fetched behind what it had
abbrev pub PassesStay : Type 0
PassesStay = (s : Subject) (env more : List Fetched) (row : ManifestRow) → Judged s env (verdicts.Passes row) → Judged s (env ++ more) (verdicts.Passes row)

-- what a manifest needs is the address of a payload, and nothing was fetched for it yet
abbrev pub NeedsAnAddress : Type 0
NeedsAnAddress = (s : Subject) (env : List Fetched) (uri : List ℕ) → Judged s env (verdicts.Needs uri) → IsAwaited env uri

-- A component of a row is one that the envelope lists, and its bytes have the digest that is kept with it.
pub record IsVerifiedPart (c : ComponentRow) : Type 0 where
  pub digest : Digest
  pub kept : c.digest ≡ Some digest
  pub matched : Matches digest c.bytes

-- The bytes are an envelope whose digest is that of its manifest and was signed by an author under the anchors; the number of its manifest is that of the row, and
-- above any that was kept for it; the components of the row are those that it lists, and the bytes of each have its digest; and no other manifest has one of them.
pub record IsAccepted (s : Subject) (row : ManifestRow) : Type 0 where
  pub envelope : Envelope
  pub is : EnvelopeIs envelope s.bytes
  pub holds : HoldsDigest envelope
  pub signed : IsSigned s.config.anchors envelope
  pub newer : IsNewer s.rows envelope.manifest
  pub id_is : row.id ≡ envelope.manifest.id
  pub sequence_is : row.sequence ≡ envelope.manifest.sequence
  pub components_are : map (λ c. c.id) row.components ≡ envelope.manifest.components
  pub matched : AllByRecursion IsVerifiedPart row.components
  pub free : IsFree s.rows envelope.manifest

-- a manifest that passes is accepted with its row
abbrev pub AcceptedAreVerified : Type 0
AcceptedAreVerified = (s : Subject) (env : List Fetched) (row : ManifestRow) → Judged s env (verdicts.Passes row) → IsAccepted s row

-- a row may be put among those of a device: it is present, it is a row, and no component stands in it twice or in a row of another manifest
pub record MayBePut (heads : List RowHead) (row : ManifestRow) : Type 0 where
  pub present : row.present ≡ true
  pub is : IsRow row
  pub distinct : NoneTwice (map (λ c. c.id) row.components)
  pub free : AllByRecursion (LeavesFree row.id (map (λ c. c.id) row.components)) heads

-- the row of a manifest that passes is such
abbrev pub MadeAreSound : Type 0
MadeAreSound = (s : Subject) (env : List Fetched) (row : ManifestRow) → Judged s env (verdicts.Passes row) → MayBePut s.rows row
