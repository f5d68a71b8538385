use Rattle.std.proofs.Common.{◌≡◌, length, map, take}
use Rattle.journal_core.specs.Frames.{frames}
use Rattle.journal_core.proofs.framed.Framed.of.Given as goal

-- the bodies so far are framed, and their lengths kept
abbrev pub invariant-loop-body : goal.invariant-loop-body
invariant-loop-body l = record {
  bytes_are : l.bytes.items ≡ frames (take l.body-index l.body-items);
  lengths_are : l.lengths.items ≡ map length (take l.body-index l.body-items);
}
