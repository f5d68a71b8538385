-- Digits and the numbers that they write.
use Rattle.std.proofs.Common.{◌≡◌, ℕ, suc, ◌+◌, ◌-◌, ◌*◌, ◌<◌, ◌≤◌, true, false, nat_lt, List, [], ◌∷◌, length, take, drop, get_or, None, refl, ap, arith, inl, inr, le-ltb, length-take, drop-cons}
use Rattle.std.specs.Char.{is_ascii_digit, digit_value}
use Rattle.std.specs.Str.Parse.{AllDigits, digits_value, digits_value_after}
use Rattle.std.proofs.lemmas.List.Sums.{take_while-cons}
use Rattle.std.proofs.lemmas.Bool.{cases_Bool, and_parts, leb-true}
use Rattle.std.proofs.lemmas.Str.{digit_value_digit}
use Rattle.std.proofs.lemmas.Str.Parse.{digit_at}
use Rattle.diag_text.specs.Reading.{digits, value_below}
use Rattle.diag_text.specs.Faulty.{NoDigit}

pub value_grows : (ds : List ℕ) (n : ℕ) → n ≤ digits_value_after 10 n ds
value_grows [] n = omega arith
value_grows (d ∷ ds) n = let more = value_grows ds (n * 10 + digit_value d) in omega (arith, more)

pub above_limit : (limit n total : ℕ) (rest : List ℕ) → limit ≤ n → digits_value_after 10 n rest ≡ total → nat_lt total limit ≡ false
above_limit limit n total rest le e = le-ltb total limit (omega (arith, value_grows rest n, e))

digit_in : (c : ℕ) → is_ascii_digit c ≡ true → digit_value c < 10
digit_in c e =
    let both = and_parts _ _ e in
    let low : 48 ≤ c = leb-true 48 c both.0 in
    let high : c ≤ 57 = leb-true c 57 both.1 in
    let value = digit_value_digit c (low, high) in
    omega (arith, value)

pub digits_all : (bytes : List ℕ) → AllDigits 10 (digits bytes)
digits_all [] = tt
digits_all (b ∷ bytes) = elim (cases_Bool (is_ascii_digit b)) [
  | inl here ↦ rw (take_while-cons is_ascii_digit b bytes, here) (digit_in b here, digits_all bytes)
  | inr other ↦ rw (take_while-cons is_ascii_digit b bytes, other) tt
]

pub take_digits : (bytes : List ℕ) → take (length (digits bytes)) bytes ≡ digits bytes
take_digits [] = refl
take_digits (b ∷ bytes) = elim (cases_Bool (is_ascii_digit b)) [
  | inl here ↦ rw (take_while-cons is_ascii_digit b bytes, here) (ap (λ (t : List ℕ). b ∷ t) (take_digits bytes))
  | inr other ↦ rw (take_while-cons is_ascii_digit b bytes, other) refl
]

pub digits_short : (bytes : List ℕ) → length (digits bytes) ≤ length bytes
digits_short bytes = omega (arith, ap length (take_digits bytes), length-take (length (digits bytes)) bytes)

-- no digit stands behind the digits
pub no_digit_behind : (bytes : List ℕ) → NoDigit (drop (length (digits bytes)) bytes)
no_digit_behind [] = tt
no_digit_behind (b ∷ bytes) = elim (cases_Bool (is_ascii_digit b)) [
  | inl here ↦ rw (take_while-cons is_ascii_digit b bytes, here) (no_digit_behind bytes)
  | inr other ↦ rw (take_while-cons is_ascii_digit b bytes, other) other
]

pub ruleset fronts = (digits_all, take_digits, digits_short)

pub limit_reached : (ds : List ℕ) (i n limit : ℕ) → i < length ds → AllDigits 10 ds → digits_value_after 10 n (drop i ds) ≡ digits_value 10 ds
    → limit ≤ n * 10 + (get_or ds i 0 - 48) → None ≡ value_below limit ds
limit_reached ds i n limit lt all so_far le =
    let value = digit_value_digit (get_or ds i 0) (digit_at ds i all lt) in
    let step = rw (drop-cons ds i 0 lt) at so_far in
    let big : limit ≤ n * 10 + digit_value (get_or ds i 0) = omega (arith, value) in
    rw (above_limit limit (n * 10 + digit_value (get_or ds i 0)) (digits_value 10 ds) (drop (suc i) ds) big step) refl
