use Rattle.device_image.proofs.States.{begin_refused}
use Rattle.device_image.proofs.replay.begin.Goals as goal

pub returns-in-Err-clause-begun : goal.returns-in-Err-clause-begun
returns-in-Err-clause-begun g c = λ told.
    begin_refused c.args.config c.journal_of.result (g.B.Board.view c.args.board.now).now.disk.bytes c.in-Err.fault c.journal_of.ensures.region (c.in-Err.ensures.mounted told)
