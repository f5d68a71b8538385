use Rattle.std.proofs.Common.{◌≡◌, ◌+◌, ◌-◌, ◌≤◌, length, take}
use Rattle.outside_core.specs.Stream.{Took}
use Rattle.frames.proofs.fill.fill_from.Given as goal

abbrev pub invariant-loop-n : goal.invariant-loop-n
invariant-loop-n g l = record {
  within : l.n ≤ length l.buf;
  counted : l.budget.taken ≡ l.initial.budget.taken + l.n;
  most : l.budget.most ≡ l.initial.budget.most;
  took : g.S.Source.told → Took (take l.n l.buf) (g.S.Source.stream l.initial.source) (g.S.Source.stream l.source);
  faults : g.S.Source.read_faults l.source ≡ g.S.Source.read_faults l.initial.source;
  keeps : g.S.Source.keeps l.initial.source l.source;
}

abbrev pub decreases-loop-n : goal.decreases-loop-n
decreases-loop-n g l = length l.initial.buf - l.n
