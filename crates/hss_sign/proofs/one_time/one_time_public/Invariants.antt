use Rattle.std.proofs.Common.{◌≡◌, ◌*◌, length, take}
use Rattle.hss_sign.specs.Trees.{end_of_chain}
use Rattle.hss_sign.proofs.Joined.{joined}
use Rattle.hss_sign.proofs.one_time.one_time_public.Given as goal

-- the ends of the chains so far
abbrev pub invariant-loop-i : goal.invariant-loop-i
invariant-loop-i l = record {
  size : length l.ends ≡ 2144;
  written : take (32 * l.i) l.ends ≡ joined (end_of_chain l.params l.secret l.leaf) l.i;
}
