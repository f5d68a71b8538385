use Rattle.std.proofs.Common.{drop}
use Rattle.board_core.proofs.Told.{sync_told, sync_moments}
use Rattle.board_core.proofs.memory_board.MemoryBoardBoard.sync.Goals as goal

pub returns-in-Ok-clause-contents : goal.returns-in-Ok-clause-contents
returns-in-Ok-clause-contents c = let m = c.args.self.now in sync_told _ _ m.taken (drop m.taken m.input) m.history c.idle.new.self _ _ c.if-ok.true tt c.in-Ok.ensures.ok

pub returns-in-Ok-clause-moments : goal.returns-in-Ok-clause-moments
returns-in-Ok-clause-moments c = let m = c.args.self.now in sync_moments _ _ m.taken m.taken (drop m.taken m.input) _ m.history c.idle.new.self _ c.in-Ok.ensures.ok

pub returns-in-Ok-2-clause-contents : goal.returns-in-Ok-2-clause-contents
returns-in-Ok-2-clause-contents c = let m = c.args.self.now in sync_told _ _ m.taken (drop m.taken m.input) m.history c.idle.new.self _ _ tt c.if-ok.false c.in-Ok.ensures.ok

pub returns-in-Ok-2-clause-moments : goal.returns-in-Ok-2-clause-moments
returns-in-Ok-2-clause-moments c = let m = c.args.self.now in sync_moments _ _ m.taken m.taken (drop m.taken m.input) _ m.history c.idle.new.self _ c.in-Ok.ensures.ok
