-- Signatures of a key by its number of levels, and its capacity.
use Rattle.std.proofs.Common.{◌≡◌, ℕ, ◌*◌, ◌/◌, ◌%◌, ◌^◌, ◌⊎◌, inl, inr, List, ◌++◌, refl}
use Rattle.lms_core.specs.Bytes.{u32_bytes}
use Rattle.lms_core.specs.Lms.{signature_bytes}
use Rattle.hss_sign.specs.declared.params.KeyParams.{KeyParams}
use Rattle.hss_sign.specs.Params.{IsProperParams, capacity}
use Rattle.hss_sign.specs.Secrets.{lower_secret, top_secret}
use Rattle.hss_sign.specs.Sign.{signature_of, signed_key, tree_signature}

pub by_one_level : (params : KeyParams) (seed : List ℕ) (n : ℕ) (message : List ℕ) → params.levels ≡ 1 → u32_bytes 0 ++ signature_bytes (tree_signature params (top_secret seed) n message) ≡ signature_of params seed n message
unfolding signature_of
by_one_level params seed n message one = rw one refl

pub by_two_levels : (params : KeyParams) (seed : List ℕ) (n t q : ℕ) (message : List ℕ) → params.levels ≡ 2 → t ≡ n / 2 ^ params.height → q ≡ n % 2 ^ params.height
    → u32_bytes 1 ++ (signed_key params seed t ++ signature_bytes (tree_signature params (lower_secret (top_secret seed) t) q message)) ≡ signature_of params seed n message
unfolding signature_of
by_two_levels params seed n t q message two top below = rw (two, top, below) refl

pub two_if_not_one : (n : ℕ) → (n ≡ 1) ⊎ (n ≡ 2) → ¬ (n ≡ 1) → n ≡ 2
two_if_not_one n (inl one) other = absurd (other one)
two_if_not_one n (inr two) other = two

power_fits : (l h : ℕ) → (l ≡ 1) ⊎ (l ≡ 2) → (h ≡ 5) ⊎ (h ≡ 10) → 1 * 2 ^ (l * h) % 18446744073709551616 ≡ 2 ^ (l * h)
power_fits l h (inl a) (inl b) = rw (a, b) refl
power_fits l h (inl a) (inr b) = rw (a, b) refl
power_fits l h (inr a) (inl b) = rw (a, b) refl
power_fits l h (inr a) (inr b) = rw (a, b) refl

-- a shift makes the capacity
pub capacity_is : (params : KeyParams) → IsProperParams params → 1 * 2 ^ (params.levels * params.height) % 18446744073709551616 ≡ capacity params
capacity_is params proper = power_fits params.levels params.height proper.levels proper.height
