-- The decimal digits of a length, as a value that is written and as one that is read.
use Rattle.std.proofs.Common.{◌≡◌, ◌<◌, ◌≤◌, ◌^◌, ℕ, Bool, true, cond, List, [], ◌∷◌, length, get_or, ap, ◌∙◌, arith, decimal}
use Rattle.std.specs.Prelude.{nat_lt, nat_le, ◌&&◌}
use Rattle.std.specs.Char.{is_ascii_graphic, is_ascii_digit}
use Rattle.std.specs.List.{list_all}
use Rattle.std.specs.Str.Parse.{digits_value}
use Rattle.std.proofs.lemmas.Bool.{and_from, le-leb}
use Rattle.std.proofs.lemmas.Bool.Decides.{nat_tests}
use Rattle.std.proofs.lemmas.Fmt.{decimal_is_IsNumeral, length-decimal-le, decimal_nonempty}
use Rattle.std.proofs.lemmas.Grind.{get_or_default_zero}
use Rattle.std.proofs.lemmas.List.Elements.{All-weaker}
use Rattle.std.proofs.lemmas.List.Sums.{AllPass-from_list_all, list_all-from_AllPass}
use Rattle.std.proofs.lemmas.Str.Parse.{digit_at}
use Rattle.httparse.specs.Grammar.{AllPass}
use Rattle.http_wire.specs.Fields.{length_in}
use Rattle.http_wire.specs.declared.fields.BodyLength.TheVariants.{Said, Bad}
use Rattle.http_wire.proofs.Seen.{IsVisible}

-- a text that is tested whole
pub literal : (bytes : List ℕ) → list_all is_ascii_graphic bytes ≡ true → IsVisible bytes
literal bytes all = AllPass-from_list_all is_ascii_graphic bytes all

pub digits_pass : (n : ℕ) → n < 2 ^ 64 → AllPass is_ascii_digit (decimal n)
digits_pass n small k d below =
    let range = digit_at (decimal n) k (decimal_is_IsNumeral n small).0.1 below in
    let at : get_or (decimal n) k d ≡ get_or (decimal n) k 0 = get_or_default_zero (decimal n) k d below in
    rw at (and_from (nat_le 48 (get_or (decimal n) k 0)) (nat_le (get_or (decimal n) k 0) 57) (le-leb 48 (get_or (decimal n) k 0) range.0) (le-leb (get_or (decimal n) k 0) 57 range.1))

pub digits_visible : (n : ℕ) → n < 2 ^ 64 → IsVisible (decimal n)
digits_visible n small = All-weaker (λ b. is_ascii_digit b ≡ true) (λ b. is_ascii_graphic b ≡ true) step (decimal n) (digits_pass n small)
  where
    step : (b : ℕ) → is_ascii_digit b ≡ true → is_ascii_graphic b ≡ true
    step b h = grind (arith, nat_tests)

-- the length that is written is the length that is read
pub length_says : (n : ℕ) → n < 10 ^ 18 → length_in (decimal n ∷ []) ≡ Said n
length_says n small =
    ap (λ (b : Bool). cond b (Said (digits_value 10 (decimal n))) Bad)
    (and_from (nat_lt 0 (length (decimal n)) && nat_le (length (decimal n)) 18) (list_all is_ascii_digit (decimal n))
    (sizes (length (decimal n)) (decimal_nonempty n (omega (arith, small))) (length-decimal-le 18 n (omega arith) small (omega (arith, small))))
    (list_all-from_AllPass is_ascii_digit (decimal n) (digits_pass n (omega (arith, small)))))
    ∙ ap Said (decimal_is_IsNumeral n (omega (arith, small))).1
  where
    sizes : (k : ℕ) → 0 < k → k ≤ 18 → (nat_lt 0 k && nat_le k 18) ≡ true
    sizes k some most = grind (arith, nat_tests)
