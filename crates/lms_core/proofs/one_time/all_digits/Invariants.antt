use Rattle.std.proofs.Common.{◌≡◌, ◌<◌, ℕ, length, slice_index}
use Rattle.lms_core.specs.Digits.{coef}
use Rattle.lms_core.proofs.one_time.all_digits.Given as goal

-- the digits so far
abbrev pub invariant-loop-i : goal.invariant-loop-i
invariant-loop-i l = record {
  size : length l.digits ≡ 265;
  digits : (k : ℕ) → k < l.i → slice_index l.digits k ≡ coef l.string k l.w;
}
