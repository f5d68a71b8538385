-- What a wave book holds, and the ledgers that it stands for.
use Rattle.std.specs.Prelude.{◌≡◌, ℕ, List, [], length, map, Option, Some, None, slice_get}
use Rattle.std.specs.List.{AllZip}
use Rattle.wave_core.specs.declared.wave.Step.{Step}
use Rattle.wave_core.specs.declared.wave.Wave.{Wave}
use Rattle.wave_core.specs.Ledger.{Ledger}
use Rattle.wave_core.specs.Waves.{AreProper, recorded}

-- the waves, and for each of them a count for each of its steps
pub record Book : Type 0 where
  pub waves : List Wave
  pub counts : List (List ℕ)

-- what is recorded of each step of a wave
abbrev pub counts_of : Ledger → Wave → List ℕ
counts_of ledger wave = map (recorded ledger wave) wave.steps

-- each count of the book is what is recorded in the ledger
pub record StandsFor (book : Book) (ledger : Ledger) : Type 0 where
  pub counts : book.counts ≡ map (counts_of ledger) book.waves

-- the steps of a wave that is there
abbrev pub steps_in : Option Wave → List Step
steps_in None = []
steps_in (Some wave) = wave.steps

-- the steps of the wave with this number, and none where no wave has it
abbrev pub steps_of : List Wave → ℕ → List Step
steps_of waves number = steps_in (slice_get waves number)

-- the wave and its step of these numbers
pub record IsStepAt (waves : List Wave) (wave_number step_number : ℕ) (wave : Wave) (step : Step) : Type 0 where
  pub wave_is : slice_get waves wave_number ≡ Some wave
  pub step_is : slice_get wave.steps step_number ≡ Some step

-- there is one count for each step
abbrev pub HasCounts : Wave → List ℕ → Type 0
HasCounts wave counts = length counts ≡ length wave.steps

-- what is true of each book: its waves are proper, and there is one count for each step of each
pub record IsBook (waves : List Wave) (counts : List (List ℕ)) : Type 0 where
  pub proper : AreProper waves
  pub whole : AllZip HasCounts waves counts
