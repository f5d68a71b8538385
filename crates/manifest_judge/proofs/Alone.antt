-- A manifest has one verdict at most.
use Rattle.std.proofs.Common.{◌≡◌, ℕ, List, [], ◌∷◌, length, Option, Some, inl, inr, refl, sym, ap, subst, ◌∙◌}
use Rattle.suit_commands.specs.declared.digest.Digest.{Digest}
use Rattle.suit_envelope.specs.declared.envelope.Envelope.{Envelope}
use Rattle.suit_envelope.specs.declared.manifest.Manifest.{Manifest}
use Rattle.suit_envelope.specs.declared.plan.Plan.{Plan}
use Rattle.suit_envelope.specs.Plans.{PlanIs}
use Rattle.suit_envelope.proofs.Public.Envelopes.{one_envelope}
use Rattle.suit_engine.specs.declared.outcome.Built.{Built}
use Rattle.suit_engine.specs.declared.outcome.Fetched.{Fetched}
use Rattle.suit_engine.specs.declared.outcome.Outcome.{Outcome}
use Rattle.suit_engine.specs.declared.outcome.Outcome.TheVariants.{Done, Need, Failed}
use Rattle.suit_engine.specs.Runs.{Runs}
use Rattle.device_state.specs.declared.rows.ComponentRow.{ComponentRow}
use Rattle.device_state.specs.declared.rows.ManifestRow.{ManifestRow}
use Rattle.manifest_judge.specs.declared.verdict.Verdict.{Verdict}
use Rattle.manifest_judge.specs.Stages.{Tested, Sought}
use Rattle.manifest_judge.specs.Subjects.{Subject}
use Rattle.manifest_judge.specs.Claims.{IsFree, IsMade, AreMade, row_of}
use Rattle.manifest_judge.specs.Testing.{Ended}
use Rattle.manifest_judge.specs.Judging.{RunEnds, Judged}

-- ---- rows

tested_one : (fact B C : Type 0) (v u w : Verdict) → (B → C → v ≡ u) → Tested fact (v ≡ w) B → Tested fact (u ≡ w) C → v ≡ u
tested_one fact B C v u w behind (inl past) (inl other) = behind past.decides other.decides
tested_one fact B C v u w behind (inl past) (inr stop) = absurd (stop.fails past.holds)
tested_one fact B C v u w behind (inr stop) (inl past) = absurd (stop.fails past.holds)
tested_one fact B C v u w behind (inr stop) (inr other) = stop.refused ∙ sym other.refused

sought_one : {A : Type 0} (P B C : A → Type 0) (v u w : Verdict) → ((x y : A) → P x → P y → x ≡ y) → ((x : A) → B x → C x → v ≡ u) → Sought P (v ≡ w) B → Sought P (u ≡ w) C → v ≡ u
sought_one P B C v u w one behind (inl found) (inl other) = behind other.value (subst B (one found.value other.value found.is other.is) found.decides) other.decides
sought_one P B C v u w one behind (inl found) (inr nothing) = absurd (nothing.none found.value found.is)
sought_one P B C v u w one behind (inr nothing) (inl found) = absurd (nothing.none found.value found.is)
sought_one P B C v u w one behind (inr nothing) (inr other) = nothing.refused ∙ sym other.refused

-- ---- components

component_one : (id : List ℕ) (b : Built) (c d : ComponentRow) → IsMade id b c → IsMade id b d → c ≡ d
component_one id b c d is other =
    let ids : c.id ≡ d.id = is.id_is ∙ sym other.id_is in
    let both : Some c.bytes ≡ Some d.bytes = sym is.bytes_are ∙ other.bytes_are in
    let bytes : c.bytes ≡ d.bytes = cc in
    let digests : c.digest ≡ d.digest = is.digest_kept ∙ sym is.digest_set ∙ other.digest_set ∙ sym other.digest_kept in
    ap (λ (i : List ℕ). record c { id = i }) ids ∙ ap (λ (t : List ℕ). record c { id = d.id; bytes = t }) bytes ∙ ap (λ (o : Option Digest). record d { digest = o }) digests

components_one : (ids : List (List ℕ)) (all : List Built) (cs ds : List ComponentRow) → AreMade ids all cs → AreMade ids all ds → cs ≡ ds
components_one [] [] [] [] are others = refl
components_one (id ∷ ids) (b ∷ all) (c ∷ cs) (d ∷ ds) are others =
    ap (λ (first : ComponentRow). first ∷ cs) (component_one id b c d are.0 others.0) ∙ ap (λ (more : List ComponentRow). d ∷ more) (components_one ids all cs ds are.1 others.1)
components_one [] [] (c ∷ cs) ds are others = absurd are
components_one [] [] [] (d ∷ ds) are others = absurd others
components_one [] (b ∷ all) cs ds are others = absurd are
components_one (id ∷ ids) [] cs ds are others = absurd are
components_one (id ∷ ids) (b ∷ all) [] ds are others = absurd are
components_one (id ∷ ids) (b ∷ all) (c ∷ cs) [] are others = absurd others

plan_one : (m : Manifest) (p q : Plan) → PlanIs p m → PlanIs q m → p ≡ q
plan_one m p q is other = let same = sym is ∙ other in cc

-- ---- verdicts

module _ (s : Subject) (env : List Fetched) (v u : Verdict) where
  ends_one : (ids : List (List ℕ)) (free : Type 0) (row : List ComponentRow → ManifestRow) (outcome : Outcome) → Ended ids free row outcome v → Ended ids free row outcome u → v ≡ u
  ends_one ids free row (Done built) ends others =
      sought_one (AreMade ids built) _ _ v u _ (components_one ids built) (λ cs owned other. tested_one free _ _ v u _ (λ is same. is ∙ sym same) owned other) ends others
  ends_one ids free row (Need uri) ends others = ends ∙ sym others
  ends_one ids free row (Failed word) ends others = ends ∙ sym others

  outcome_one : (e : Envelope) (plan : Plan) (o q : Outcome) → Runs (length e.manifest.components) plan e.attached s.config.device env o
      → Runs (length e.manifest.components) plan e.attached s.config.device env q → o ≡ q
  unfolding Runs
  outcome_one e plan o q runs other = sym runs ∙ other

  run_one : (e : Envelope) (plan : Plan) → RunEnds s env e plan v → RunEnds s env e plan u → v ≡ u
  run_one e plan r q =
      let ids = e.manifest.components in
      let free = IsFree s.rows e.manifest in
      ends_one ids free (row_of e.manifest) q.outcome
      (subst (λ (o : Outcome). Ended ids free (row_of e.manifest) o v) (outcome_one e plan r.outcome q.outcome r.runs q.runs) r.ends) q.ends

  pub verdict_one : Judged s env v → Judged s env u → v ≡ u
  verdict_one judged other =
      tested_one _ _ _ v u _ (sought_one _ _ _ v u _ (λ e f is same. one_envelope s.bytes e f is same) (λ e.
      tested_one _ _ _ v u _ (tested_one _ _ _ v u _ (tested_one _ _ _ v u _ (
      sought_one _ _ _ v u _ (plan_one e.manifest) (run_one e)))))) judged other
