use Rattle.std.proofs.Common.{◌≡◌, ◌≤◌, ◌*◌, ◌-◌, ◌^◌}
use Rattle.lms_core.proofs.Sums.{shortfall}
use Rattle.lms_core.proofs.digits.checksum.Given as goal

-- what the digits so far fall short, and a bound on it
abbrev pub invariant-loop-i : goal.invariant-loop-i
invariant-loop-i l = record {
  total : l.sum ≡ shortfall l.digest l.w (2 ^ l.w - 1) l.i;
  bound : l.sum ≤ l.i * (2 ^ l.w - 1);
}
