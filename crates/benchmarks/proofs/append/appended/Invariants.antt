use Rattle.std.proofs.Common.{◌+◌, ◌≤◌, length}
use Rattle.board_core.specs.Memory.{first_of}
use Rattle.journal_core.specs.Kept.{IsWithin}
use Rattle.benchmarks.proofs.append.appended.Given as goal

-- the journal lies within the image, and has room for the bodies to come
abbrev pub invariant-loop : goal.invariant-loop
invariant-loop l = record {
  within : IsWithin l.journal.region (length (first_of l.board));
  room : l.bodies ≤ l.journal.spare + l.counter;
}
