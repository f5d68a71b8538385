use Rattle.std.proofs.Common.{◌-◌}
use Rattle.journal_core.proofs.Scan.{Going}
use Rattle.journal_core.proofs.journal.Journal.scan.Given as goal

abbrev pub invariant-loop-self : goal.invariant-loop-self
invariant-loop-self g l = Going g.B.Source.told l.fn.self l.self (g.B.Board.view l.fn.board) (g.B.Board.view l.board)

abbrev pub decreases-loop-self : goal.decreases-loop-self
decreases-loop-self g l = l.self.region.half - l.self.used
