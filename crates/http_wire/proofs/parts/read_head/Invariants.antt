use Rattle.std.proofs.Common.{◌≡◌, ◌-◌, ◌≤◌, length}
use Rattle.outside_core.specs.Stream.{Took}
use Rattle.http_wire.specs.Ends.{HasNoEnd}
use Rattle.http_wire.proofs.parts.read_head.Given as goal

abbrev pub invariant-loop-link : goal.invariant-loop-link
invariant-loop-link g l = record {
  within : length l.head ≤ 8192;
  endless : HasNoEnd l.head;
  took : g.L.Source.told → Took l.head (g.L.Source.stream l.initial.link) (g.L.Source.stream l.link);
  faults : g.L.Link.faults l.link ≡ g.L.Link.faults l.initial.link;
  keeps : g.L.Source.keeps l.initial.link l.link;
}

abbrev pub decreases-loop-link : goal.decreases-loop-link
decreases-loop-link g l = 8192 - length l.head
