use Rattle.std.proofs.Common.{drop}
use Rattle.board_core.proofs.Told.{send_told, send_moments}
use Rattle.board_core.proofs.memory_board.MemoryBoardBoard.send.Goals as goal

pub returns-in-Ok-clause-contents : goal.returns-in-Ok-clause-contents
returns-in-Ok-clause-contents c = let m = c.args.self.now in send_told _ _ m.taken (drop m.taken m.input) m.history c.send.new.self c.args.bytes.now _ _ c.if-ok.true c.in-Ok.ensures.ok

pub returns-in-Ok-clause-moments : goal.returns-in-Ok-clause-moments
returns-in-Ok-clause-moments c = let m = c.args.self.now in send_moments _ _ m.taken m.taken (drop m.taken m.input) _ m.history c.send.new.self c.args.bytes.now _ c.in-Ok.ensures.ok

pub returns-in-Ok-2-clause-contents : goal.returns-in-Ok-2-clause-contents
returns-in-Ok-2-clause-contents c = let m = c.args.self.now in send_told _ _ m.taken (drop m.taken m.input) m.history c.send.new.self c.args.bytes.now _ _ tt c.in-Ok.ensures.ok

pub returns-in-Ok-2-clause-moments : goal.returns-in-Ok-2-clause-moments
returns-in-Ok-2-clause-moments c = let m = c.args.self.now in send_moments _ _ m.taken m.taken (drop m.taken m.input) _ m.history c.send.new.self c.args.bytes.now _ c.in-Ok.ensures.ok
