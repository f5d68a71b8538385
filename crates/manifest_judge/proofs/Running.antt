-- Rows whose refusals or whose ends are others, and the verdict of a run.
use Rattle.std.proofs.Common.{◌≡◌, ℕ, List, length, inl, inr, ap, subst, ◌∙◌, ◌↔◌, Ok, Err, Result}
use Rattle.std.specs.Prelude.{IfOk, IsTrue}
use Rattle.base_types.specs.declared.memory.NoMemory.{NoMemory}
use Rattle.evidence.specs.declared.ids.DeviceIds.{DeviceIds}
use Rattle.trust_anchors.specs.declared.anchors.Anchors.{Anchors}
use Rattle.suit_envelope.specs.declared.envelope.Attached.{Attached}
use Rattle.suit_envelope.specs.declared.envelope.Envelope.{Envelope}
use Rattle.suit_envelope.specs.declared.manifest.Manifest.{Manifest}
use Rattle.suit_envelope.specs.declared.plan.Plan.{Plan}
use Rattle.suit_engine.specs.declared.outcome.Fetched.{Fetched}
use Rattle.suit_engine.specs.declared.outcome.Outcome.{Outcome}
use Rattle.suit_engine.specs.declared.outcome.Outcome.TheVariants.{Done, Need, Failed}
use Rattle.suit_engine.specs.Contents.{Contents}
use Rattle.suit_engine.specs.Runs.{Runs, RunsFor, IsFor}
use Rattle.device_state.specs.declared.heads.RowHead.{RowHead}
use Rattle.device_state.specs.declared.rows.ComponentRow.{ComponentRow}
use Rattle.device_state.specs.declared.rows.ManifestRow.{ManifestRow}
use Rattle.manifest_judge.specs.declared.word.Word.{Word}
use Rattle.manifest_judge.specs.declared.verdict.Verdict.{Verdict}
use Rattle.manifest_judge.specs.declared.verdict.Verdict.TheVariants.{Passes, Fails}
use Rattle.manifest_judge.specs.declared.candidate.Target.{Target}
use Rattle.manifest_judge.specs.declared.candidate.Candidate.{Candidate}
use Rattle.manifest_judge.specs.declared.candidate.Entry.TheVariants as entries
use Rattle.manifest_judge.specs.Stages.{Tested, Sought}
use Rattle.manifest_judge.specs.Subjects.{Subject}
use Rattle.manifest_judge.specs.Claims.{IsFree, AreMade, row_of}
use Rattle.manifest_judge.specs.Testing.{Owned, Ended}
use Rattle.manifest_judge.specs.Openings.{FromPlan, FromDigest, Opened, IsTarget, IsCandidate, Begins}
use Rattle.manifest_judge.specs.Judging.{RunEnds, Judged}
use Rattle.manifest_judge.specs.Answers.{row_with}

-- ---- rows with other refusals and other ends

pub tested_too : {fact r q b d : Type 0} → (r → q) → (b → d) → Tested fact r b → Tested fact q d
tested_too refuse decide (inl past) = inl (record { holds = past.holds; decides = decide past.decides })
tested_too refuse decide (inr stop) = inr (record { fails = stop.fails; refused = refuse stop.refused })

pub sought_too : {A : Type 0} (P : A → Type 0) (r q : Type 0) (b d : A → Type 0) → (r → q) → ((x : A) → b x → d x) → Sought P r b → Sought P q d
sought_too P r q b d refuse decide (inl one) = inl (record { value = one.value; is = one.is; decides = decide one.value one.decides })
sought_too P r q b d refuse decide (inr nothing) = inr (record { none = nothing.none; refused = refuse nothing.refused })

module _ (refused other : Word → Type 0) (refuse : (word : Word) → refused word → other word) where
  plan_too : (behind also : Plan → Type 0) → ((plan : Plan) → behind plan → also plan) → (e : Envelope) → FromPlan refused behind e → FromPlan other also e
  plan_too behind also decide e row = sought_too _ _ _ behind also (refuse _) decide row

  digest_too : (anchors : Anchors) (rows : List RowHead) (behind also : Plan → Type 0) → ((plan : Plan) → behind plan → also plan) → (e : Envelope)
      → FromDigest anchors rows refused behind e → FromDigest anchors rows other also e
  digest_too anchors rows behind also decide e row = tested_too (refuse _) (tested_too (refuse _) (tested_too (refuse _) (plan_too behind also decide e))) row

  pub opened_too : (s : Subject) (behind also : Envelope → Plan → Type 0) → ((e : Envelope) (plan : Plan) → behind e plan → also e plan) → Opened s refused behind → Opened s other also
  opened_too s behind also decide row = tested_too (refuse _) (sought_too _ _ _ _ _ (refuse _) (λ e. digest_too s.config.anchors s.rows (behind e) (also e) (decide e) e)) row

-- ---- the end of a run

module _ (free left : Type 0) (same : free ↔ left) (row other : List ComponentRow → ManifestRow) (rows : (cs : List ComponentRow) → row cs ≡ other cs) (verdict : Verdict) where
  owned_as : (cs : List ComponentRow) → Owned free (row cs) verdict → Owned left (other cs) verdict
  owned_as cs (inl past) = inl (record { holds = same.0 past.holds; decides = past.decides ∙ ap Passes (rows cs) })
  owned_as cs (inr stop) = inr (record { fails = λ is. stop.fails (same.1 is); refused = stop.refused })

  ended_as : (ids : List (List ℕ)) (outcome : Outcome) → Ended ids free row outcome verdict → Ended ids left other outcome verdict
  ended_as ids (Done built) ends = sought_too (AreMade ids built) _ _ _ _ (λ is. is) owned_as ends
  ended_as ids (Need uri) ends = ends
  ended_as ids (Failed word) ends = ends

runs_as : (e : Contents) (count : ℕ) (plan : Plan) (attached : List Attached) (device : DeviceIds) (env : List Fetched) (outcome : Outcome) → IsFor e count plan attached device
    → RunsFor e env outcome → Runs count plan attached device env outcome
runs_as e count plan attached device env outcome is runs =
    subst (λ (n : ℕ). Runs n plan attached device env outcome) is.count_is
    (subst (λ (p : Plan). Runs e.count p attached device env outcome) is.plan_is
    (subst (λ (a : List Attached). Runs e.count e.plan a device env outcome) is.attached_is
    (subst (λ (d : DeviceIds). Runs e.count e.plan e.attached d env outcome) is.device_is runs)))

row_as : (rows : List RowHead) (m : Manifest) (t : Target) → IsTarget rows m t → (cs : List ComponentRow) → row_with t cs ≡ row_of m cs
row_as rows m t is cs = let id : t.id ≡ m.id = is.id_is in let sequence : t.sequence ≡ m.sequence = is.sequence_is in cc

module _ (s : Subject) (c : Candidate) (env : List Fetched) (outcome : Outcome) (runs : RunsFor c.engine env outcome) (verdict : Verdict)
    (ends : Ended c.target.components (IsTrue c.target.free) (row_with c.target) outcome verdict) where
  run_ends : (e : Envelope) (plan : Plan) → IsCandidate s.config.device s.rows e plan c → RunEnds s env e plan verdict
  run_ends e plan is = record {
    outcome = outcome;
    runs = runs_as c.engine (length e.manifest.components) plan e.attached s.config.device env outcome is.runs runs;
    ends = (
        let t = is.target in
        ended_as (IsTrue c.target.free) (IsFree s.rows e.manifest) t.free_is (row_with c.target) (row_of e.manifest) (row_as s.rows e.manifest c.target t) verdict e.manifest.components outcome
        (subst (λ (ids : List (List ℕ)). Ended ids (IsTrue c.target.free) (row_with c.target) outcome verdict) t.components_are ends)
        );
  }

  refuses : (word : Word) → entries.Goes c ≡ entries.Fails word → verdict ≡ Fails word
  refuses word is = absurd cc

  run_judged : Begins s (entries.Goes c) → Judged s env verdict
  run_judged begins = opened_too (λ word. entries.Goes c ≡ entries.Fails word) (λ word. verdict ≡ Fails word) refuses s
      (λ e plan. IsCandidate s.config.device s.rows e plan c) (λ e plan. RunEnds s env e plan verdict) run_ends begins

-- what the run of a candidate comes to is the verdict on what it was opened for
pub judged : (s : Subject) (c : Candidate) (env : List Fetched) (outcome : Outcome) → RunsFor c.engine env outcome
    → (r : Result Verdict NoMemory) → IfOk r (Ended c.target.components (IsTrue c.target.free) (row_with c.target) outcome) → Begins s (entries.Goes c) → IfOk r (Judged s env)
judged s c env outcome runs (Err none) ends begins = tt
judged s c env outcome runs (Ok verdict) ends begins = run_judged s c env outcome runs verdict ends begins
