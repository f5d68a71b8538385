use Rattle.std.proofs.Common.{◌≡◌, ◌<◌, drop}
use Rattle.std.specs.Str.Parse.{AllDigits, digits_value, digits_value_after}
use Rattle.diag_text.proofs.scan.digits_number.Given as goal

abbrev pub invariant-loop-digit : goal.invariant-loop-digit
invariant-loop-digit l = record {
  value : digits_value_after 10 l.n (drop l.digit-index l.digits) ≡ digits_value 10 l.digits;
  below : l.n < l.limit;
  rest : AllDigits 10 (drop l.digit-index l.digits);
}
