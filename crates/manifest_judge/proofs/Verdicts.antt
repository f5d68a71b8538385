-- A manifest has a verdict.
use Rattle.std.proofs.Common.{◌≡◌, List, length, inl, inr, refl}
use Rattle.base_types.specs.Bytes.{IsBytes}
use Rattle.base_types.specs.declared.limits.TheConstants.{MANIFESTS_LIMIT}
use Rattle.suit_envelope.specs.declared.envelope.Envelope.{Envelope}
use Rattle.suit_envelope.specs.declared.plan.Plan.{Plan}
use Rattle.suit_envelope.specs.Envelopes.{EnvelopeIs}
use Rattle.suit_envelope.specs.Plans.{PlanIs}
use Rattle.suit_engine.specs.declared.outcome.Fetched.{Fetched}
use Rattle.suit_engine.specs.declared.outcome.Outcome.{Outcome}
use Rattle.suit_engine.specs.declared.outcome.Outcome.TheVariants.{Done, Need, Failed}
use Rattle.suit_engine.specs.Law.{OneOutcome}
use Rattle.manifest_judge.specs.declared.word.Word.TheVariants as word
use Rattle.manifest_judge.specs.declared.verdict.Verdict.{Verdict}
use Rattle.manifest_judge.specs.declared.verdict.Verdict.TheVariants.{Passes, Needs, Fails}
use Rattle.manifest_judge.specs.Stages.{Tested, Sought}
use Rattle.manifest_judge.specs.Subjects.{Subject}
use Rattle.manifest_judge.specs.Claims.{HoldsDigest, IsSigned, IsNewer, IsFree, AreMade, row_of}
use Rattle.manifest_judge.specs.Testing.{word_of, Owned, Ended}
use Rattle.manifest_judge.specs.Openings.{FromPlan, FromSequence, FromSignature, FromDigest, FromEnvelope}
use Rattle.manifest_judge.specs.Judging.{RunEnds, Judged}
use Rattle.manifest_judge.specs.Law.{OneVerdict}
use Rattle.manifest_judge.proofs.Fields.{envelope_fields}
use Rattle.manifest_judge.proofs.Alone.{verdict_one}
use Rattle.manifest_judge.proofs.Deciding.{Decided, SomeOrNone, bytes_decided, less_decided, newer_decided, free_decided, components_decided, envelope_decided, signed_decided, plan_decided}

-- some verdict is such
pub record SomeVerdict (P : Verdict → Type 0) : Type 0 where
  pub verdict : Verdict
  pub is : P verdict

tested_some : (fact : Type 0) (w : Verdict) (behind : Verdict → Type 0) → Decided fact → (fact → SomeVerdict behind) → SomeVerdict (λ v. Tested fact (v ≡ w) (behind v))
tested_some fact w behind (inl holds) more = let one = more holds in record { verdict = one.verdict; is = inl (record { holds = holds; decides = one.is }) }
tested_some fact w behind (inr fails) more = record { verdict = w; is = inr (record { fails = fails; refused = refl }) }

sought_some : {A : Type 0} (P : A → Type 0) (w : Verdict) (behind : A → Verdict → Type 0) → SomeOrNone P → ((x : A) → P x → SomeVerdict (behind x))
    → SomeVerdict (λ v. Sought P (v ≡ w) (λ x. behind x v))
sought_some P w behind (inl found) more = let one = more found.0 found.1 in record { verdict = one.verdict; is = inl (record { value = found.0; is = found.1; decides = one.is }) }
sought_some P w behind (inr none) more = record { verdict = w; is = inr (record { none = none; refused = refl }) }

module _ (runs : OneOutcome) (s : Subject) (env : List Fetched) where
  ends_some : (e : Envelope) (outcome : Outcome) → SomeVerdict (λ v. Ended e.manifest.components (IsFree s.rows e.manifest) (row_of e.manifest) outcome v)
  ends_some e (Done built) = sought_some (AreMade e.manifest.components built) (Fails word.Image) (λ cs v. Owned (IsFree s.rows e.manifest) (row_of e.manifest cs) v)
      (components_decided e.manifest.components built) (λ cs are.
      tested_some (IsFree s.rows e.manifest) (Fails word.Owner) (λ v. v ≡ Passes (row_of e.manifest cs)) (free_decided s.rows e.manifest) (λ free.
      record { verdict = Passes (row_of e.manifest cs); is = refl }))
  ends_some e (Need uri) = record { verdict = Needs uri; is = refl }
  ends_some e (Failed w) = record { verdict = Fails (word_of w); is = refl }

  run_some : (e : Envelope) (plan : Plan) → SomeVerdict (λ v. RunEnds s env e plan v)
  run_some e plan =
      let one = runs (length e.manifest.components) plan e.attached s.config.device env in
      let end = ends_some e one.outcome in
      record { verdict = end.verdict; is = record { outcome = one.outcome; runs = one.has; ends = end.is } }

  judged_some : IsBytes s.bytes → SomeVerdict (λ v. Judged s env v)
  judged_some are =
      tested_some _ (Fails word.Form) (λ v. FromEnvelope s (λ w. v ≡ Fails w) (λ e plan. RunEnds s env e plan v)) (less_decided s.place MANIFESTS_LIMIT) (λ early.
      sought_some (λ e. EnvelopeIs e s.bytes) (Fails word.Form) (λ e v. FromDigest s.config.anchors s.rows (λ w. v ≡ Fails w) (λ plan. RunEnds s env e plan v) e) (envelope_decided s.bytes are) (λ e is.
      tested_some (HoldsDigest e) (Fails word.Digest) (λ v. FromSignature s.config.anchors s.rows (λ w. v ≡ Fails w) (λ plan. RunEnds s env e plan v) e) (bytes_decided _ _) (λ holds.
      tested_some (IsSigned s.config.anchors e) (Fails word.Signature) (λ v. FromSequence s.rows (λ w. v ≡ Fails w) (λ plan. RunEnds s env e plan v) e)
      (signed_decided s.config.anchors e (envelope_fields e s.bytes is).blocks) (λ signed.
      tested_some (IsNewer s.rows e.manifest) (Fails word.Sequence) (λ v. FromPlan (λ w. v ≡ Fails w) (λ plan. RunEnds s env e plan v) e) (newer_decided s.rows e.manifest) (λ newer.
      sought_some (λ plan. PlanIs plan e.manifest) (Fails word.Command) (λ plan v. RunEnds s env e plan v) (plan_decided e.manifest) (λ plan planned. run_some e plan))))))

pub one_verdict : OneOutcome → OneVerdict
one_verdict runs s env are =
    let one = judged_some runs s env are in
    record { verdict = one.verdict; is = one.is; alone = λ other judged. verdict_one s env other one.verdict judged one.is }
