-- Chains that go on where others ended, and the digits that say where.
use Rattle.std.proofs.Common.{◌≡◌, ℕ, zero, suc, ◌+◌, ◌-◌, ◌^◌, ◌≤◌, List, refl, ap, ◌∙◌, arith}
use native.Mathlib.Numerals.{unary_clauses}
use Rattle.std.proofs.lemmas.Nat.{and_le_l}
use Rattle.lms_core.specs.Chains.{chain, chain_step}
use Rattle.lms_core.specs.Digits.{coef}

-- a chain from 0 to a digit, and on from there
pub chain_goes_on : (identifier : List ℕ) (q i a n : ℕ) (start : List ℕ) → chain identifier q i a n (chain identifier q i 0 a start) ≡ chain identifier q i 0 (a + n) start
unfolding chain
chain_goes_on identifier q i a zero start = simp unary_clauses refl
chain_goes_on identifier q i a (suc n) start =
    let place : a + n ≡ 0 + (a + n) = omega arith in
    simp unary_clauses (ap (chain_step identifier q i (a + n)) (chain_goes_on identifier q i a n start)
    ∙ ap (λ (m : ℕ). chain_step identifier q i m (chain identifier q i 0 (a + n) start)) place)

-- a digit of w bits is at most the largest
pub coef_at_most : (string : List ℕ) (i w : ℕ) → coef string i w ≤ 2 ^ w - 1
coef_at_most string i w = and_le_l (2 ^ w - 1) _

-- the steps that a signature took and those that its verifier takes are the whole chain
pub chain_ends : (identifier : List ℕ) (q i a largest : ℕ) (start : List ℕ) → a ≤ largest → chain identifier q i a (largest - a) (chain identifier q i 0 a start) ≡ chain identifier q i 0 largest start
chain_ends identifier q i a largest start h =
    let whole : a + (largest - a) ≡ largest = omega (arith, h) in
    chain_goes_on identifier q i a (largest - a) start ∙ ap (λ (n : ℕ). chain identifier q i 0 n start) whole
