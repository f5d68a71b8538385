use Rattle.std.proofs.Common.{take}
use Rattle.std.specs.List.{AllByRecursion}
use Rattle.trust_anchors.specs.Anchors.{IsString}
use Rattle.trust_anchors.proofs.reading.are_strings.Given as goal

abbrev pub invariant-loop-item : goal.invariant-loop-item
invariant-loop-item l = AllByRecursion IsString (take l.item-index l.items)
