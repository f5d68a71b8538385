-- The digits of a byte string, one more at a time.
use Rattle.std.proofs.Common.{◌≡◌, ℕ, ◌+◌, ◌-◌, ◌*◌, ◌/◌, ◌%◌, ◌^◌, ◌≤◌, List, [], ◌∷◌, ◌++◌, length, take, drop, refl, ◌∙◌, ap, arith}
use Rattle.std.proofs.lemmas.List.{append-nil, drop_at, take_at}
use borrow.Rule.Slice.PartMut.{put_mid}
use Rattle.lms_core.specs.declared.parameters.OtsParams.{OtsParams}
use Rattle.lms_core.specs.Parameters.{IsOtsRow}
use Rattle.lms_core.proofs.Public.Rows.{sum_fits}
use Rattle.std.specs.Prelude.{sum_by}
use Rattle.std.proofs.lemmas.List.FromFn.{sum_by-map-range_with_len_more}
use Rattle.lms_core.specs.Digits.{checksum, coef, digits}

-- what the first n digits fall short of m, in sum
abbrev pub shortfall : List ℕ → ℕ → ℕ → ℕ → ℕ
shortfall string w m n = sum_by (λ digit. m - digit) (digits string w n)

pub shortfall_more : (string : List ℕ) (w m n : ℕ) → shortfall string w m (n + 1) ≡ shortfall string w m n + (m - coef string n w)
shortfall_more string w m n = sum_by-map-range_with_len_more (λ digit. m - digit) (λ i. coef string i w) 0 n n (omega arith)

-- one digit more falls short by m at most
pub bound_more : (s n m d : ℕ) → s ≤ n * m → s + (m - d) ≤ (n + 1) * m
bound_more s n m d h = omega (arith, h)

-- the whole sum, shifted, is the checksum
pub checksum_is : (digest : List ℕ) (params : OtsParams) (n s : ℕ) → IsOtsRow params → n ≡ 256 / params.w → s ≡ shortfall digest params.w (2 ^ params.w - 1) n → s ≤ n * (2 ^ params.w - 1)
    → s * 2 ^ params.ls % 65536 ≡ checksum digest params.w params.ls
unfolding checksum
checksum_is digest params n s row count total bound =
    let fits = sum_fits params s row (rw count at bound) in
    let same : s * 2 ^ params.ls % 65536 ≡ s * 2 ^ params.ls = omega (arith, fits) in
    same ∙ ap (λ (x : ℕ). x * 2 ^ params.ls) (total ∙ ap (shortfall digest params.w (2 ^ params.w - 1)) count)

-- a hash, and two bytes written behind it
pub two_parts : (front back : List ℕ) → length front ≡ 32 → length back ≡ 2 → put_mid 32 2 (front ++ 0 ∷ 0 ∷ []) back ≡ front ++ back
two_parts front back size back_size =
    let begun : take 32 (front ++ 0 ∷ 0 ∷ []) ≡ front = take_at front (0 ∷ 0 ∷ []) 32 size in
    let rest : drop 32 (front ++ 0 ∷ 0 ∷ []) ≡ 0 ∷ 0 ∷ [] = drop_at front (0 ∷ 0 ∷ []) 32 size in
    rw (begun, rest, append-nil) refl
