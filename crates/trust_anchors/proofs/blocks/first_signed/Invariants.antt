use Rattle.std.proofs.Common.{take}
use Rattle.std.specs.List.{AllByRecursion}
use Rattle.trust_anchors.specs.Blocks.{BlockPassed}
use Rattle.trust_anchors.proofs.blocks.first_signed.Given as goal

abbrev pub invariant-loop-place : goal.invariant-loop-place
invariant-loop-place l = AllByRecursion (BlockPassed l.anchors l.role l.payload) (take l.place l.blocks)
