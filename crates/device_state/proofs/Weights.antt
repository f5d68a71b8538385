-- Weights that are added one by one, and kept within 64 bits.
use Rattle.std.proofs.Common.{◌≡◌, ℕ, ◌+◌, ◌-◌, ◌<◌, ◌≤◌, ◌^◌, List, [], ◌∷◌, ◌++◌, length, map, take, get_or, refl, sym, ap, ◌∙◌, arith}
use Rattle.std.specs.Prelude.{sum, min}
use Rattle.std.proofs.lemmas.List.{take_more, map-append}
use Rattle.device_state.specs.State.{capped}

-- one more
pub capped_more : (a b : ℕ) → min (capped a + capped b) (2 ^ 64 - 1) ≡ capped (a + b)
capped_more a b = omega arith
