-- Bytes that are zeros.
use Rattle.std.specs.Prelude.{ℕ, Bool, true, false, ◌==◌, List, [], ◌∷◌, if◌then◌else◌}

-- each byte is zero
abbrev pub all_zeros : List ℕ → Bool
all_zeros [] = true
all_zeros (b ∷ bs) = if b == 0 then all_zeros bs else false
