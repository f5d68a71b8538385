-- What is known of a verdict. The laws of runs that are taken as arguments are the clauses of the calls of the same names.
use Rattle.std.proofs.Common.{◌≡◌, ℕ, List, ◌++◌}
use Rattle.suit_engine.specs.declared.outcome.Fetched.{Fetched}
use Rattle.suit_engine.specs.Law.{DoneStays, IsAwaited, NeedsAnAddress}
use Rattle.device_state.specs.declared.rows.ManifestRow.{ManifestRow}
use Rattle.manifest_judge.specs.declared.word.Word.{Word}
use Rattle.manifest_judge.specs.declared.verdict.Verdict.{Verdict}
use Rattle.manifest_judge.specs.declared.verdict.Verdict.TheVariants as verdicts
use Rattle.manifest_judge.specs.declared.candidate.Entry.TheVariants as entries
use Rattle.manifest_judge.specs.Subjects.{Subject}
use Rattle.manifest_judge.specs.Openings.{Begins}
use Rattle.manifest_judge.specs.Judging.{Judged}
use Rattle.manifest_judge.specs.Law.{IsAccepted, MayBePut}
use Rattle.manifest_judge.proofs.Alone as alone
use Rattle.manifest_judge.proofs.Passing as passing

-- a subject has one verdict at most, whatever its bytes are
pub verdict_one : (s : Subject) (env : List Fetched) (v u : Verdict) → Judged s env v → Judged s env u → v ≡ u
verdict_one s env v u judged other = alone.verdict_one s env v u judged other

-- a word that comes before anything is run is the verdict
pub word_stays : (s : Subject) (word : Word) (env : List Fetched) → Begins s (entries.Fails word) → Judged s env (verdicts.Fails word)
word_stays s word env begins = passing.words_stay s word begins env

-- what passes does so with more behind what was fetched
pub pass_stays : DoneStays → (s : Subject) (env more : List Fetched) (row : ManifestRow) → Judged s env (verdicts.Passes row) → Judged s (env ++ more) (verdicts.Passes row)
pass_stays stays s env more row judged = passing.passes_stay stays s env more row judged

-- what is needed is awaited
pub need_awaited : NeedsAnAddress → (s : Subject) (env : List Fetched) (uri : List ℕ) → Judged s env (verdicts.Needs uri) → IsAwaited env uri
need_awaited awaited s env uri judged = passing.needs_an_address awaited s env uri judged

-- what passes is accepted
pub pass_accepted : (s : Subject) (env : List Fetched) (row : ManifestRow) → Judged s env (verdicts.Passes row) → IsAccepted s row
pass_accepted s env row judged = passing.accepted s env row judged

-- and its row may be put
pub pass_sound : (s : Subject) (env : List Fetched) (row : ManifestRow) → Judged s env (verdicts.Passes row) → MayBePut s.rows row
pass_sound s env row judged = passing.made_are_sound s env row judged
