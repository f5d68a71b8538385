use Rattle.std.proofs.Common.{take}
use Rattle.std.specs.List.{AllZip}
use Rattle.trust_anchors.specs.Anchors.{Wraps}
use Rattle.trust_anchors.proofs.reading.read_keys.Given as goal

abbrev pub invariant-loop-at : goal.invariant-loop-at
invariant-loop-at l = AllZip Wraps l.keys (take l.at l.items)
