-- The numbers of calls, and which of them are to fail.
use Rattle.std.specs.Prelude.{ℕ, ◌+◌, ◌-◌, ◌^◌, ◌==◌, min, List, Bool, not}
use Rattle.std.specs.List.{list_any}

-- the call of this number works: it is none of those that are to fail
abbrev pub works_at : List ℕ → ℕ → Bool
works_at failing number = not (list_any (λ n. n == number) failing)

-- the number of the call behind that of a number; the last number stays
abbrev pub numbered : ℕ → ℕ
numbered next = min (next + 1) (2 ^ 64 - 1)
