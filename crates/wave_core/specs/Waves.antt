-- To which devices a manifest is open, by waves and a ledger.
use Rattle.std.specs.Prelude.{◌≡◌, ◌≢◌, ◌≤◌, ℕ, Bool, false, List, length, take, flat_map, Option, Some, None, All, AllPairs, count_by, nat_le}
use Rattle.std.specs.List.{list_any, position_or_len}
use Rattle.wave_core.specs.declared.wave.Step.{Step}
use Rattle.wave_core.specs.declared.wave.Wave.{Wave}
use Rattle.wave_core.specs.declared.wave.TheConstants.{STEPS_LIMIT}
use Rattle.wave_core.specs.Ledger.{Ledger, same_bytes}

-- ---- what a device has confirmed

-- whether there is a number, and it is at least the sequence
abbrev pub reaches : ℕ → Option ℕ → Bool
reaches sequence None = false
reaches sequence (Some number) = nat_le sequence number

-- how many devices of the step have a number for the wave's identifier that is at least the wave's sequence
abbrev pub recorded : Ledger → Wave → Step → ℕ
recorded ledger wave step = count_by (λ device. reaches wave.sequence (ledger device wave.id)) step.devices

-- as many of the step are recorded as are needed
abbrev pub IsDone : Ledger → Wave → Step → Type 0
IsDone ledger wave step = step.needed ≤ recorded ledger wave step

-- ---- whom a manifest is offered to

-- whether the step lists the device
abbrev pub lists : List ℕ → Step → Bool
lists device step = list_any (λ listed. same_bytes listed device) step.devices

-- the number of the step that lists the device, counted from 0, or the number of steps where none does
abbrev pub place_in : Wave → List ℕ → ℕ
place_in wave device = position_or_len (lists device) wave.steps

-- the wave is that of this class and this identifier
abbrev pub IsOf : List ℕ → List ℕ → Wave → Type 0
IsOf class id wave = (wave.class ≡ class) × (wave.id ≡ id)

-- each step below the device's place is done
abbrev pub IsOpenIn : Wave → Ledger → List ℕ → Type 0
IsOpenIn wave ledger device = All (IsDone ledger wave) (take (place_in wave device) wave.steps)

-- No wave has the class and the identifier, or in the one that has them each step below the device's place is done.
abbrev pub Open : List Wave → Ledger → List ℕ → List ℕ → List ℕ → Type 0
Open waves ledger class id device = All (λ wave. IsOf class id wave → IsOpenIn wave ledger device) waves

-- ---- which waves a manager may have

-- some of the step's devices are needed, and no more than all
pub record IsProperStep (step : Step) : Type 0 where
  pub some : 1 ≤ step.needed
  pub within : step.needed ≤ length step.devices

-- there are 1 to 16 steps, each of them proper, and no device stands twice
pub record IsProperWave (wave : Wave) : Type 0 where
  pub some : 1 ≤ length wave.steps
  pub few : length wave.steps ≤ STEPS_LIMIT
  pub steps : All IsProperStep wave.steps
  pub once : AllPairs (λ a b. a ≢ b) (flat_map (λ step. step.devices) wave.steps)

-- each wave is proper, and no two have the same class and the same identifier
pub record AreProper (waves : List Wave) : Type 0 where
  pub each : All IsProperWave waves
  pub apart : AllPairs (λ a b. IsOf a.class a.id b → ⊥) waves
