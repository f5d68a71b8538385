-- What is known where a manifest passes, and where it needs a payload.
use Rattle.std.proofs.Common.{◌≡◌, ℕ, List, ◌++◌, length, refl, sym, ap, subst, ◌∙◌, inl, inr, arith}
use Rattle.std.specs.Prelude.{map}
use Rattle.std.specs.List.{AllByRecursion}
use Rattle.suit_envelope.specs.declared.envelope.Envelope.{Envelope}
use Rattle.suit_envelope.specs.declared.plan.Plan.{Plan}
use Rattle.suit_envelope.specs.Envelopes.{EnvelopeIs}
use Rattle.suit_envelope.specs.Plans.{PlanIs}
use Rattle.suit_engine.specs.declared.outcome.Built.{Built}
use Rattle.suit_engine.specs.declared.outcome.Fetched.{Fetched}
use Rattle.suit_engine.specs.declared.outcome.Outcome.{Outcome}
use Rattle.suit_engine.specs.declared.outcome.Outcome.TheVariants.{Done, Need, Failed}
use Rattle.suit_engine.specs.Runs.{Runs}
use Rattle.suit_engine.specs.Law.{DoneStays, IsAwaited, NeedsAnAddress as NeedsOfRuns}
use Rattle.device_state.specs.declared.rows.ComponentRow.{ComponentRow}
use Rattle.device_state.specs.declared.rows.ManifestRow.{ManifestRow}
use Rattle.device_state.specs.Valid.{NoneTwice}
use Rattle.manifest_judge.specs.declared.word.Word.{Word}
use Rattle.manifest_judge.specs.declared.word.Word.TheVariants.{Image, Owner}
use Rattle.manifest_judge.specs.declared.verdict.Verdict.TheVariants.{Passes, Needs, Fails}
use Rattle.manifest_judge.specs.declared.candidate.Entry.TheVariants as entries
use Rattle.manifest_judge.specs.Subjects.{Subject}
use Rattle.manifest_judge.specs.Claims.{HoldsDigest, IsSigned, IsNewer, LeavesFree, IsFree, AreMade, row_of}
use Rattle.manifest_judge.specs.Testing.{Owned, Ended}
use Rattle.manifest_judge.specs.Openings.{Opened, Enters, Begins}
use Rattle.manifest_judge.specs.Judging.{RunEnds, Judged}
use Rattle.manifest_judge.specs.Law.{WordsStay, PassesStay, NeedsAnAddress, IsVerifiedPart, AcceptedAreVerified, MayBePut, MadeAreSound}
use Rattle.manifest_judge.proofs.Fields.{envelope_fields}
use Rattle.manifest_judge.proofs.Rows.{made_ids, made_count, made_verified, made_components}
use Rattle.manifest_judge.proofs.Running.{opened_too}

-- ---- where no word came before the run

-- the first five rows hold, and this is behind them
pub record IsOpen (s : Subject) (behind : Envelope → Plan → Type 0) : Type 0 where
  pub envelope : Envelope
  pub plan : Plan
  pub is : EnvelopeIs envelope s.bytes
  pub holds : HoldsDigest envelope
  pub signed : IsSigned s.config.anchors envelope
  pub newer : IsNewer s.rows envelope.manifest
  pub plan_is : PlanIs plan envelope.manifest
  pub decides : behind envelope plan

pub opened_out : (s : Subject) (refused : Word → Type 0) (behind : Envelope → Plan → Type 0) → ((word : Word) → refused word → ⊥) → Opened s refused behind → IsOpen s behind
opened_out s refused behind none (inr stop) = absurd (none _ stop.refused)
opened_out s refused behind none (inl early) = elim early.decides [
  | inr nothing ↦ absurd (none _ nothing.refused)
  | inl read ↦ elim read.decides [
    | inr stop ↦ absurd (none _ stop.refused)
    | inl held ↦ elim held.decides [
      | inr stop ↦ absurd (none _ stop.refused)
      | inl signed ↦ elim signed.decides [
        | inr stop ↦ absurd (none _ stop.refused)
        | inl newer ↦ elim newer.decides [
          | inr nothing ↦ absurd (none _ nothing.refused)
          | inl planned ↦ record {
            envelope = read.value;
            plan = planned.value;
            is = read.is;
            holds = held.holds;
            signed = signed.holds;
            newer = newer.holds;
            plan_is = planned.is;
            decides = planned.decides;
          }
        ]
      ]
    ]
  ]
]

-- ---- where it passes

-- the run is done, all components are made and free, and this is the row
pub record IsDone (s : Subject) (env : List Fetched) (e : Envelope) (plan : Plan) (row : ManifestRow) : Type 0 where
  pub built : List Built
  pub components : List ComponentRow
  pub runs : Runs (length e.manifest.components) plan e.attached s.config.device env (Done built)
  pub made : AreMade e.manifest.components built components
  pub free : IsFree s.rows e.manifest
  pub row_is : row ≡ row_of e.manifest components

module _ (s : Subject) (env : List Fetched) (row : ManifestRow) where
  passes_word : (word : Word) → Passes row ≡ Fails word → ⊥
  passes_word word is = cc

  done_as : (e : Envelope) (plan : Plan) (outcome : Outcome) → Runs (length e.manifest.components) plan e.attached s.config.device env outcome
      → Ended e.manifest.components (IsFree s.rows e.manifest) (row_of e.manifest) outcome (Passes row) → IsDone s env e plan row
  done_as e plan (Need uri) runs ends = absurd cc
  done_as e plan (Failed word) runs ends = absurd cc
  done_as e plan (Done built) runs (inr nothing) = absurd (passes_word Image nothing.refused)
  done_as e plan (Done built) runs (inl made) = elim made.decides [
    | inr stop ↦ absurd (passes_word Owner stop.refused)
    | inl free ↦ record {
      built = built;
      components = made.value;
      runs = runs;
      made = made.is;
      free = free.holds;
      row_is = (let same : Passes row ≡ Passes (row_of e.manifest made.value) = free.decides in cc);
    }
  ]

  pub passed : Judged s env (Passes row) → IsOpen s (λ e plan. IsDone s env e plan row)
  passed judged =
      let o = opened_out s (λ word. Passes row ≡ Fails word) (λ e plan. RunEnds s env e plan (Passes row)) passes_word judged in
      let r = o.decides in
      record {
        envelope = o.envelope;
        plan = o.plan;
        is = o.is;
        holds = o.holds;
        signed = o.signed;
        newer = o.newer;
        plan_is = o.plan_is;
        decides = done_as o.envelope o.plan r.outcome r.runs r.ends;
      }

-- it was verified, is newer, and its components match
pub accepted : AcceptedAreVerified
accepted s env row judged =
    let p = passed s env row judged in
    let e = p.envelope in
    let d = p.decides in
    record {
      envelope = e;
      is = p.is;
      holds = p.holds;
      signed = p.signed;
      newer = p.newer;
      id_is = ap (λ (r : ManifestRow). r.id) d.row_is;
      sequence_is = ap (λ (r : ManifestRow). r.sequence) d.row_is;
      components_are = ap (λ (r : ManifestRow). map (λ c. c.id) r.components) d.row_is ∙ made_ids e.manifest.components d.built d.components d.made;
      matched = subst (λ (r : ManifestRow). AllByRecursion IsVerifiedPart r.components) (sym d.row_is) (made_verified e.manifest.components d.built d.components d.made);
      free = d.free;
    }

-- its row may be put
pub made_are_sound : MadeAreSound
made_are_sound s env row judged =
    let p = passed s env row judged in
    let m = p.envelope.manifest in
    let d = p.decides in
    let fields = envelope_fields p.envelope s.bytes p.is in
    let ids = made_ids m.components d.built d.components d.made in
    let size = made_count m.components d.built d.components d.made in
    let listed = fields.ids.components in
    subst (λ (r : ManifestRow). MayBePut s.rows r) (sym d.row_is) (record {
      present = refl;
      is = record {
        id = fields.ids.id;
        count = (omega (arith, size, listed.least), omega (arith, size, listed.most));
        components = made_components m.components d.built d.components listed.short d.made;
      };
      distinct = subst NoneTwice (sym ids) listed.distinct;
      free = subst (λ (names : List (List ℕ)). AllByRecursion (LeavesFree m.id names) s.rows) (sym ids) d.free;
    })

-- ---- with more behind what was fetched

module _ (stays : DoneStays) (s : Subject) (env more : List Fetched) (row : ManifestRow) where
  ends_still : (e : Envelope) (plan : Plan) (outcome : Outcome) → Runs (length e.manifest.components) plan e.attached s.config.device env outcome
      → Ended e.manifest.components (IsFree s.rows e.manifest) (row_of e.manifest) outcome (Passes row) → RunEnds s (env ++ more) e plan (Passes row)
  ends_still e plan (Need uri) runs ends = absurd cc
  ends_still e plan (Failed word) runs ends = absurd cc
  ends_still e plan (Done built) runs ends = record { outcome = Done built; runs = stays (length e.manifest.components) plan e.attached s.config.device env more built runs; ends = ends }

  pub passes_still : Judged s env (Passes row) → Judged s (env ++ more) (Passes row)
  passes_still judged = opened_too (λ word. Passes row ≡ Fails word) (λ word. Passes row ≡ Fails word) (λ word is. is) s
      (λ e plan. RunEnds s env e plan (Passes row)) (λ e plan. RunEnds s (env ++ more) e plan (Passes row)) (λ e plan r. ends_still e plan r.outcome r.runs r.ends) judged

pub passes_stay : DoneStays → PassesStay
passes_stay stays s env more row judged = passes_still stays s env more row judged

-- ---- where it needs a payload

module _ (awaited : NeedsOfRuns) (s : Subject) (env : List Fetched) (uri : List ℕ) where
  owned_needs : (free : Type 0) (row : ManifestRow) → Owned free row (Needs uri) → ⊥
  owned_needs free row (inl past) = (let same : Needs uri ≡ Passes row = past.decides in cc)
  owned_needs free row (inr stop) = (let same : Needs uri ≡ Fails Owner = stop.refused in cc)

  ends_awaited : (e : Envelope) (plan : Plan) (outcome : Outcome) → Runs (length e.manifest.components) plan e.attached s.config.device env outcome
      → Ended e.manifest.components (IsFree s.rows e.manifest) (row_of e.manifest) outcome (Needs uri) → IsAwaited env uri
  ends_awaited e plan (Need other) runs ends =
      (let same : other ≡ uri = cc in awaited (length e.manifest.components) plan e.attached s.config.device env uri (subst (λ (u : List ℕ). Runs (length e.manifest.components) plan e.attached s.config.device env (Need u)) same runs))
  ends_awaited e plan (Failed word) runs ends = absurd cc
  ends_awaited e plan (Done built) runs (inr nothing) = absurd (let same : Needs uri ≡ Fails Image = nothing.refused in cc)
  ends_awaited e plan (Done built) runs (inl made) = absurd (owned_needs (IsFree s.rows e.manifest) (row_of e.manifest made.value) made.decides)

  needs_word : (word : Word) → Needs uri ≡ Fails word → ⊥
  needs_word word is = cc

  pub needs_awaited : Judged s env (Needs uri) → IsAwaited env uri
  needs_awaited judged =
      let o = opened_out s (λ word. Needs uri ≡ Fails word) (λ e plan. RunEnds s env e plan (Needs uri)) needs_word judged in
      ends_awaited o.envelope o.plan o.decides.outcome o.decides.runs o.decides.ends

pub needs_an_address : NeedsOfRuns → NeedsAnAddress
needs_an_address awaited s env uri judged = needs_awaited awaited s env uri judged

-- ---- a word that comes before anything is run

module _ (s : Subject) (word : Word) (env : List Fetched) where
  same_word : (other : Word) → entries.Fails word ≡ entries.Fails other → Fails word ≡ Fails other
  same_word other is = let same : word ≡ other = cc in ap Fails same

  none_enters : (e : Envelope) (plan : Plan) → Enters s.config.device s.rows e plan (entries.Fails word) → RunEnds s env e plan (Fails word)
  none_enters e plan enters = absurd enters

  word_stays : Begins s (entries.Fails word) → Judged s env (Fails word)
  word_stays begins = opened_too (λ other. entries.Fails word ≡ entries.Fails other) (λ other. Fails word ≡ Fails other) same_word s
      (λ e plan. Enters s.config.device s.rows e plan (entries.Fails word)) (λ e plan. RunEnds s env e plan (Fails word)) none_enters begins

pub words_stay : WordsStay
words_stay s word begins env = word_stays s word env begins
