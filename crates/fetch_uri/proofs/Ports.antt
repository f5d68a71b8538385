-- The digits of a port, and what `parse` makes of them.
use Rattle.std.proofs.Common.{◌≡◌, ℕ, zero, suc, ◌^◌, ◌<◌, ◌≤◌, List, get_or, Result, Ok, Err, Some, IfSome, decimal, sym, ap, ◌∙◌, arith}
use Rattle.std.specs.Result.{result_ok}
use Rattle.std.specs.Str.Parse.{ParsesUnsigned, digits_value}
use Rattle.std.proofs.lemmas.Fmt.{decimal_is_IsNumeral, decimal_digit, decimal-digits_value, first_decimal, parse-decimal}
use Rattle.std.proofs.lemmas.Str.Parse.{numerals_by_value, tells_digits, parse_plain, digit_at}

-- only 0 is written with a 0 first
above_zero : (digits : List ℕ) (port : ℕ) → digits ≡ decimal port → 49 ≤ get_or digits 0 0 → 1 ≤ port
above_zero digits zero is first = absurd (omega (arith, ap (λ (l : List ℕ). get_or l 0 0) (is ∙ decimal_digit 0 (omega arith))))
above_zero digits (suc n) is first = omega arith

-- where a digit from 1 to 9 leads, what is parsed is the port that the digits write
pub port_found : {E : Type 0} (digits : List ℕ) (r : Result ℕ E) → ParsesUnsigned 16 10 digits r → 49 ≤ get_or digits 0 0
    → IfSome (result_ok r) (λ port. (digits ≡ decimal port) × (1 ≤ port))
port_found {E} digits (Err e) h first = tt
port_found {E} digits (Ok port) h first =
    let plain = parse_plain (numerals_by_value _ tells_digits) {E = E} 16 digits (Ok port) h (omega arith) in
    let small : digits_value 10 digits < 2 ^ 64 = omega (arith, plain.0) in
    let writes = decimal-digits_value (numerals_by_value _ tells_digits) digits plain.0.0 plain.0.1 (λ z. absurd (omega arith)) small in
    let is : digits ≡ decimal port = sym writes ∙ ap decimal (sym plain.1) in
    (is, above_zero digits port is first)

-- the digits of a port are parsed as this port
pub port_only : {E : Type 0} (digits : List ℕ) (r : Result ℕ E) (port : ℕ) → ParsesUnsigned 16 10 digits r → port ≤ 65535 → digits ≡ decimal port → result_ok r ≡ Some port
port_only digits r port h most is = ap result_ok (parse-decimal 16 port digits r (omega arith) (omega arith) is h)

-- the first digit of a port is one of 1 to 9
pub first_digit : (digits : List ℕ) (port : ℕ) → digits ≡ decimal port → 1 ≤ port → port ≤ 65535 → (49 ≤ get_or digits 0 0) × (get_or digits 0 0 ≤ 57)
first_digit digits port is least most =
    let small : port < 2 ^ 64 = omega arith in
    let numeral = decimal_is_IsNumeral port small in
    let lead = first_decimal port least small in
    let range = digit_at (decimal port) 0 numeral.0.1 numeral.0.0 in
    rw is (omega arith, omega (arith, range))
