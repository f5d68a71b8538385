-- What the rows of the tables have in common.
use Rattle.std.proofs.Common.{◌≡◌, ℕ, refl, ◌-◌, ◌*◌, ◌/◌, ◌%◌, ◌^◌, ◌<◌, ◌≤◌, inl, inr, ap, arith}
use Rattle.lms_core.specs.declared.parameters.OtsParams.{OtsParams}
use Rattle.lms_core.specs.Parameters.{IsHeight, IsOtsRow, IsWidth}

-- a row's width is one of the four
pub width_of_row : (params : OtsParams) → IsOtsRow params → IsWidth params.w
width_of_row params (inl e) = inl (ap (λ (r : OtsParams). r.w) e)
width_of_row params (inr (inl e)) = inr (inl (ap (λ (r : OtsParams). r.w) e))
width_of_row params (inr (inr (inl e))) = inr (inr (inl (ap (λ (r : OtsParams). r.w) e)))
width_of_row params (inr (inr (inr e))) = inr (inr (inr (ap (λ (r : OtsParams). r.w) e)))

-- a power of two that a shift makes
pub shifted_one : (w : ℕ) → IsWidth w → 1 * 2 ^ w % 65536 ≡ 2 ^ w
shifted_one w (inl e) = rw e refl
shifted_one w (inr (inl e)) = rw e refl
shifted_one w (inr (inr (inl e))) = rw e refl
shifted_one w (inr (inr (inr e))) = rw e refl

-- the largest sum of what 256 bits of digits fall short, shifted, fits 16 bits
pub sum_fits : (params : OtsParams) (n : ℕ) → IsOtsRow params → n ≤ 256 / params.w * (2 ^ params.w - 1) → n * 2 ^ params.ls < 65536
sum_fits params n (inl e) h = let k : n ≤ 256 = rw e at h in rw e (omega (arith, k))
sum_fits params n (inr (inl e)) h = let k : n ≤ 384 = rw e at h in rw e (omega (arith, k))
sum_fits params n (inr (inr (inl e))) h = let k : n ≤ 960 = rw e at h in rw e (omega (arith, k))
sum_fits params n (inr (inr (inr e))) h = let k : n ≤ 8160 = rw e at h in rw e (omega (arith, k))

-- the number of a tree's leaves, as a shift makes it
pub leaf_count : (h : ℕ) → IsHeight h → 1 * 2 ^ h % 4294967296 ≡ 2 ^ h
leaf_count h (inl e) = rw e refl
leaf_count h (inr (inl e)) = rw e refl
leaf_count h (inr (inr (inl e))) = rw e refl
leaf_count h (inr (inr (inr (inl e)))) = rw e refl
leaf_count h (inr (inr (inr (inr e)))) = rw e refl
