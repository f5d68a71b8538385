-- A chain, one step more at a time.
use Rattle.std.proofs.Common.{◌≡◌, ℕ, ◌+◌, ◌-◌, ◌≤◌, List, refl, arith, add-one}
use Rattle.lms_core.specs.Chains.{chain, chain_step}

-- no step leaves the start
pub chain_none : (identifier : List ℕ) (q i a n : ℕ) (start : List ℕ) → n ≡ 0 → chain identifier q i a n start ≡ start
unfolding chain
chain_none identifier q i a n start e = rw e refl

-- the step at digit j, behind the steps from a up to it
pub chain_more : (identifier : List ℕ) (q i a j : ℕ) (start : List ℕ) → a ≤ j → chain identifier q i a (j + 1 - a) start ≡ chain_step identifier q i j (chain identifier q i a (j - a) start)
unfolding chain
chain_more identifier q i a j start h =
    let count : j + 1 - a ≡ (j - a) + 1 = omega arith in
    let place : a + (j - a) ≡ j = omega arith in
    rw (count, add-one, place) refl
