-- The number that the digits of a length write, digit by digit.
use Rattle.std.proofs.Common.{◌≡◌, ◌+◌, ◌-◌, ◌*◌, ◌^◌, ◌<◌, ◌≤◌, ℕ, Bool, true, false, ◌&&◌, List, [], ◌∷◌, length, take, get_or, refl, sym, ap, ◌∙◌, arith}
use Rattle.std.specs.List.{list_all}
use Rattle.std.specs.Char.{is_ascii_digit}
use Rattle.std.specs.Int.{IsInRange}
use Rattle.std.specs.Str.{all_ascii_digits}
use Rattle.std.specs.Str.Parse.{digits_value}
use Rattle.std.proofs.lemmas.Bool.{false≢true}
use Rattle.std.proofs.lemmas.Bool.Decides.{nat_tests}
use Rattle.std.proofs.lemmas.Int.Digits.{digits_value_more}
use Rattle.std.proofs.lemmas.List.{take_all}
use Rattle.std.proofs.lemmas.List.Folds.{list_all_at}
use Rattle.std.proofs.lemmas.Str.{digit_value_digit}
use Rattle.std.proofs.lemmas.Str.Parse.{IsNumeralModel, numerals_by_value, tells_all_ascii_digits, digits_value_short, digits_value-take-le}
use Rattle.http_wire.specs.Fields.{is_length}

same_digits : (ds : List ℕ) → list_all is_ascii_digit ds ≡ all_ascii_digits ds
same_digits [] = refl
same_digits (d ∷ ds) = ap (λ (b : Bool). is_ascii_digit d && b) (same_digits ds)

-- the parts of the test
pub length_parts : (ds : List ℕ) → is_length ds ≡ true → (0 < length ds) × (length ds ≤ 18) × (list_all is_ascii_digit ds ≡ true)
length_parts ds h = grind (arith, nat_tests)

digit_at : (ds : List ℕ) (i : ℕ) → list_all is_ascii_digit ds ≡ true → i < length ds → is_ascii_digit (get_or ds i 0) ≡ true
digit_at ds i h l = by (is_ascii_digit (get_or ds i 0)) refl
  where
    by : (b : Bool) → is_ascii_digit (get_or ds i 0) ≡ b → is_ascii_digit (get_or ds i 0) ≡ true
    by true e = e
    by false e = absurd (false≢true (sym (list_all_at is_ascii_digit ds i 0 l e) ∙ h))

in_range : (c : ℕ) → is_ascii_digit c ≡ true → IsInRange 48 57 c
in_range c h = grind (arith, nat_tests)

numerals : IsNumeralModel (λ ds. all_ascii_digits ds ≡ true) (digits_value 10)
numerals = numerals_by_value _ tells_all_ascii_digits

-- one digit more
pub next_digit : (ds : List ℕ) (i n : ℕ) → is_length ds ≡ true → i < length ds → n ≡ digits_value 10 (take i ds)
    → (n * 10 + (get_or ds i 0 - 48) ≡ digits_value 10 (take (i + 1) ds)) × (digits_value 10 (take (i + 1) ds) < 10 ^ 18)
next_digit ds i n h l e =
    let p = length_parts ds h in
    let value = digit_value_digit (get_or ds i 0) (in_range (get_or ds i 0) (digit_at ds i p.2 l)) in
    let step = digits_value_more 10 ds i l in
    let small = digits_value_short numerals ds 18 (sym (same_digits ds) ∙ p.2) p.1 in
    let front = digits_value-take-le 10 ds (i + 1) (omega arith) in
    (omega (arith, value, step, e), omega (arith, small, front))

-- all digits
pub all_digits : (ds : List ℕ) (i n : ℕ) → length ds ≤ i → n ≡ digits_value 10 (take i ds) → n ≡ digits_value 10 ds
all_digits ds i n l e = e ∙ ap (λ (s : List ℕ). digits_value 10 s) (take_all i ds l)
