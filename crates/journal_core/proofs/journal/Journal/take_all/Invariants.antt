use Rattle.std.proofs.Common.{◌≤◌, ◌+◌, take}
use Rattle.journal_core.specs.Kept.{IsOf, Keeps}
use Rattle.journal_core.proofs.journal.Journal.take_all.Given as goal

-- the bodies so far are kept, each in one place
abbrev pub invariant-loop-length : goal.invariant-loop-length
invariant-loop-length l = record {
  is_of : IsOf l.fn.self l.self;
  keeps : Keeps l.self (take l.length-index l.fn.framed);
  spare : l.fn.self.spare ≤ l.self.spare + l.length-index;
}
