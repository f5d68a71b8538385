-- From the outcome of a run to the verdict.
use Rattle.std.specs.Prelude.{ℕ, ◌≡◌, List}
use Rattle.suit_engine.specs.declared.outcome.Built.{Built}
use Rattle.suit_engine.specs.declared.outcome.Outcome.{Outcome}
use Rattle.suit_engine.specs.declared.outcome.Outcome.TheVariants.{Done, Need, Failed}
use Rattle.suit_engine.specs.declared.outcome.Word.{Word as RunWord}
use Rattle.suit_engine.specs.declared.outcome.Word.TheVariants as run
use Rattle.device_state.specs.declared.rows.ComponentRow.{ComponentRow}
use Rattle.device_state.specs.declared.rows.ManifestRow.{ManifestRow}
use Rattle.manifest_judge.specs.declared.word.Word.{Word}
use Rattle.manifest_judge.specs.declared.word.Word.TheVariants.{Condition, Payload, Fetches, Image, Owner}
use Rattle.manifest_judge.specs.declared.verdict.Verdict.{Verdict}
use Rattle.manifest_judge.specs.declared.verdict.Verdict.TheVariants.{Passes, Needs, Fails}
use Rattle.manifest_judge.specs.Stages.{Tested, Sought}
use Rattle.manifest_judge.specs.Claims.{AreMade}

-- the word of a run that failed
abbrev pub word_of : RunWord → Word
word_of run.Condition = Condition
word_of run.Payload = Payload
word_of run.Fetches = Fetches

-- what remains where all components are made: `owner` fails where one belongs to another manifest, and else the row passes
abbrev pub Owned : Type 0 → ManifestRow → Verdict → Type 0
Owned free row verdict = Tested free (verdict ≡ Fails Owner) (verdict ≡ Passes row)

-- of a run that is done: `image` fails where the components that are listed are not made
abbrev pub Finished : List (List ℕ) → Type 0 → (List ComponentRow → ManifestRow) → List Built → Verdict → Type 0
Finished ids free row built verdict = Sought (AreMade ids built) (verdict ≡ Fails Image) (λ components. Owned free (row components) verdict)

-- of each outcome
abbrev pub Ended : List (List ℕ) → Type 0 → (List ComponentRow → ManifestRow) → Outcome → Verdict → Type 0
Ended ids free row (Done built) verdict = Finished ids free row built verdict
Ended ids free row (Need uri) verdict = verdict ≡ Needs uri
Ended ids free row (Failed word) verdict = verdict ≡ Fails (word_of word)
