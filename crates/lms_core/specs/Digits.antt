-- The digits that an LM-OTS signature signs (RFC 8554, 3.1.3 and 4.4).
use Rattle.std.specs.Prelude.{ℕ, ◌+◌, ◌-◌, ◌*◌, ◌/◌, ◌%◌, ◌^◌, List, ◌++◌, map, bit_and, slice_index, sum_by}
use Rattle.std.specs.List.{range_with_len}
use Rattle.lms_core.specs.Bytes.{u16_bytes}

-- coef(S, i, w): the i-th digit of w bits of the byte string S (RFC 8554, 3.1.3)
abbrev pub coef : List ℕ → ℕ → ℕ → ℕ
coef string i w =
    bit_and (2 ^ w - 1) (slice_index string (i * w / 8) / 2 ^ (8 - (w * (i % (8 / w)) + w)))

-- the first n digits of a byte string
abbrev pub digits : List ℕ → ℕ → ℕ → List ℕ
digits string w n = map (λ i. coef string i w) (range_with_len 0 n)

-- Cksm(Q): how far the digits of the 256 bits of Q fall short of the largest digit, in sum,
-- shifted to the left by ls bits (RFC 8554, 4.4)
unfoldable pub checksum : List ℕ → ℕ → ℕ → ℕ
checksum digest w ls = sum_by (λ digit. 2 ^ w - 1 - digit) (digits digest w (256 / w)) * 2 ^ ls

-- what is signed: Q || Cksm(Q) (RFC 8554, 4.5)
abbrev pub signed_string : List ℕ → ℕ → ℕ → List ℕ
signed_string digest w ls = digest ++ u16_bytes (checksum digest w ls)
