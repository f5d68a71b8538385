use Rattle.std.proofs.Common.{◌∙◌}
use Rattle.turn_loop.proofs.Looked.{looked_at}
use Rattle.turn_loop.proofs.looking.look.Goals as goal

pub returns-clause-next : goal.returns-clause-next
returns-clause-next g c = λ told.
    looked_at _ _ _ (g.met.B.Board.reads_stream c.args.board.now told) (g.met.B.Board.reads_stream c.next_frame.new.source told) (c.next_frame.ensures.most ∙ c.requires) (c.next_frame.ensures.next told)
