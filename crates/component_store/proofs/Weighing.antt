-- Weights below the greatest number are told as they are.
use Rattle.std.proofs.Common.{◌≡◌, ◌≤◌, ◌<◌, ℕ, arith}
use Rattle.device_state.specs.State.{capped}

pub capped_small : (n : ℕ) → n ≤ 33554432 → capped n ≡ n
capped_small n small = omega (arith, small)

pub capped_above : (n q : ℕ) → q < capped n → q < n
capped_above n q above = omega (arith, above)

pub capped_below : (n q : ℕ) → q ≤ 33554432 → capped n ≤ q → n ≤ q
capped_below n q small below = omega (arith, small, below)
