-- How long the pieces of a frame are.
use Rattle.std.proofs.Common.{◌≡◌, ℕ, length, refl}
use Rattle.frames.specs.Frames.{four_bytes}

pub length-four_bytes : (n : ℕ) → length (four_bytes n) ≡ 4
unfolding four_bytes
length-four_bytes n = refl
