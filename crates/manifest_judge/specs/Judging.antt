-- How one manifest of an Update is judged (RFC 9397, "Update"; draft-ietf-suit-manifest, "Manifest Processing"): ten words, each exactly where its row fails and
-- all before it hold.
use Rattle.std.specs.Prelude.{◌≡◌, List, length}
use Rattle.suit_envelope.specs.declared.envelope.Envelope.{Envelope}
use Rattle.suit_envelope.specs.declared.plan.Plan.{Plan}
use Rattle.suit_engine.specs.declared.outcome.Fetched.{Fetched}
use Rattle.suit_engine.specs.declared.outcome.Outcome.{Outcome}
use Rattle.suit_engine.specs.Runs.{Runs}
use Rattle.manifest_judge.specs.declared.verdict.Verdict.{Verdict}
use Rattle.manifest_judge.specs.declared.verdict.Verdict.TheVariants.{Fails}
use Rattle.manifest_judge.specs.Subjects.{Subject}
use Rattle.manifest_judge.specs.Claims.{IsFree, row_of}
use Rattle.manifest_judge.specs.Testing.{Ended}
use Rattle.manifest_judge.specs.Openings.{Opened}

-- The plan is run on the components that are listed, with the payloads that are attached and those that were fetched; the verdict is that of the outcome.
pub record RunEnds (s : Subject) (env : List Fetched) (e : Envelope) (plan : Plan) (verdict : Verdict) : Type 0 where
  pub outcome : Outcome
  pub runs : Runs (length e.manifest.components) plan e.attached s.config.device env outcome
  pub ends : Ended e.manifest.components (IsFree s.rows e.manifest) (row_of e.manifest) outcome verdict

-- with what was fetched so far this is the verdict
abbrev pub Judged : Subject → List Fetched → Verdict → Type 0
Judged s env verdict = Opened s (λ word. verdict ≡ Fails word) (λ e plan. RunEnds s env e plan verdict)
