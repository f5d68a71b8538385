use Rattle.device_image.proofs.Replaying.{Going}
use Rattle.device_image.proofs.held.Held.replay.Given as goal

abbrev pub invariant-loop-index : goal.invariant-loop-index
invariant-loop-index g l = Going g.B.Source.told l.fn.self l.self (g.B.Board.view l.fn.board) (g.B.Board.view l.board) l.index
