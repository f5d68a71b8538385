-- Numbers as byte strings, high byte first (RFC 8554, 3.1.1 and 3.1.2).
use Rattle.std.specs.Prelude.{ℕ, ◌+◌, List, slice_range}
use Rattle.std.specs.Int.{w16, w32, from_be_bytes, to_be_bytes}

-- u16str(n)
abbrev pub u16_bytes : ℕ → List ℕ
u16_bytes n = to_be_bytes w16 n

-- u32str(n)
abbrev pub u32_bytes : ℕ → List ℕ
u32_bytes n = to_be_bytes w32 n

-- the number that the four bytes from a place on spell
abbrev pub u32_at : List ℕ → ℕ → ℕ
u32_at bytes place = from_be_bytes w32 (slice_range bytes place (place + 4))
