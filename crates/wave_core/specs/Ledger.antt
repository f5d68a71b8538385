-- A manager's ledger: which number, if any, each device confirmed last of each identifier.
use Rattle.std.specs.Prelude.{◌≡◌, ◌<◌, ◌≤◌, ◌&&◌, ℕ, Bool, List, Option, Some, None, IfSome, IsSomeAnd, nat_eq, if◌then◌else◌}
use Rattle.std.specs.Cmp.Lexicographic.{pointwise}

-- a number, or none, for each device and identifier
abbrev pub Ledger : Type 0
Ledger = List ℕ → List ℕ → Option ℕ

-- no device has a number
abbrev pub empty : Ledger
empty device id = None

-- whether two strings of bytes are the same
abbrev pub same_bytes : List ℕ → List ℕ → Bool
same_bytes xs ys = pointwise nat_eq xs ys

-- the ledger with this number for the device and the identifier, and all else as it was
abbrev pub raised : List ℕ → List ℕ → ℕ → Ledger → Ledger
raised device id after ledger = λ d i. if same_bytes d device && same_bytes i id then Some after else ledger d i

-- The ledger has this number, or none, for the device and the identifier, and the one that comes is above it.
pub record Rises (ledger : Ledger) (device id : List ℕ) (before : Option ℕ) (after : ℕ) : Type 0 where
  pub known : ledger device id ≡ before
  pub above : IfSome before (λ number. number < after)

-- what comes is not below what was: none is below every number
abbrev pub IsNotBelow : Option ℕ → Option ℕ → Type 0
IsNotBelow None later = Unit {0}
IsNotBelow (Some number) later = IsSomeAnd later (λ n. number ≤ n)

-- from one ledger to the other no number falls
abbrev pub NoneFalls : Ledger → Ledger → Type 0
NoneFalls earlier later = (device id : List ℕ) → IsNotBelow (earlier device id) (later device id)
