-- What the printer writes between parts.
use Rattle.std.specs.Prelude.{ℕ, nat_lt, if◌then◌else◌, List, [], codes}

-- what stands before the part at an index
abbrev pub before : ℕ → List ℕ
before index = if nat_lt 0 index then codes ", " else []
