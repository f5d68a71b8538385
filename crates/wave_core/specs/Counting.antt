-- What the book computes. `proofs` shows that it is what `specs/Waves` and `specs/Book` say.
use Rattle.std.specs.Prelude.{◌+◌, ◌<◌, ◌&&◌, ℕ, zero, suc, Bool, true, List, [], ◌∷◌, Option, Some, nat_lt, nat_le, not, slice_index_or, length, if◌then◌else◌}
use Rattle.wave_core.specs.declared.wave.Step.{Step}
use Rattle.wave_core.specs.declared.wave.Wave.{Wave}
use Rattle.wave_core.specs.Ledger.{same_bytes}
use Rattle.wave_core.specs.Waves.{IsOf, place_in, reaches}

-- one more, unless there are as many as there may be
abbrev pub one_more : ℕ → ℕ → ℕ
one_more most count = if nat_lt count most then count + 1 else count

-- one more at this place, and nothing where the list ends before it
abbrev pub more_at : ℕ → ℕ → List ℕ → List ℕ
more_at place most [] = []
more_at zero most (count ∷ counts) = one_more most count ∷ counts
more_at (suc place) most (count ∷ counts) = count ∷ more_at place most counts

-- how many devices the step at this place has, and none where the steps end before it
abbrev pub size_at : List Step → ℕ → ℕ
size_at [] place = 0
size_at (step ∷ steps) zero = length step.devices
size_at (step ∷ steps) (suc place) = size_at steps place

-- whether a number that rises from one to the other reaches the sequence by it
abbrev pub crosses : ℕ → Option ℕ → ℕ → Bool
crosses sequence before after = not (reaches sequence before) && reaches sequence (Some after)

-- what a device's number that rises makes of the counts of a wave
abbrev pub noted_in : List ℕ → List ℕ → Option ℕ → ℕ → Wave → List ℕ → List ℕ
noted_in device id before after wave counts =
    let place = place_in wave device in
    if same_bytes wave.id id && crosses wave.sequence before after then more_at place (size_at wave.steps place) counts else counts

-- the same for each wave and its counts
abbrev pub noted : List ℕ → List ℕ → Option ℕ → ℕ → List Wave → List (List ℕ) → List (List ℕ)
noted device id before after [] all = all
noted device id before after (wave ∷ waves) [] = []
noted device id before after (wave ∷ waves) (counts ∷ all) = noted_in device id before after wave counts ∷ noted device id before after waves all

-- whether each step has as many as it needs
abbrev pub are_enough : List Step → List ℕ → Bool
are_enough [] counts = true
are_enough (step ∷ steps) [] = true
are_enough (step ∷ steps) (count ∷ counts) = nat_le step.needed count && are_enough steps counts

-- the wave of a class and an identifier stands at this number
pub record IsWaveAt (waves : List Wave) (class id : List ℕ) (number : ℕ) : Type 0 where
  pub within : number < length waves
  pub is : (d : Wave) → IsOf class id (slice_index_or waves number d)
