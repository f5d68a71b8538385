use Rattle.std.proofs.Common.{drop, arith}
use Rattle.board_core.proofs.Told.{put_told, put_moments, long}
use Rattle.board_core.proofs.memory_board.MemoryBoardBoard.put.Goals as goal

pub put-requires : goal.put-requires
put-requires c = omega (arith, c.requires, long c.args.self.now.history)

pub returns-in-Ok-clause-contents : goal.returns-in-Ok-clause-contents
returns-in-Ok-clause-contents c = let m = c.args.self.now in put_told _ _ m.taken (drop m.taken m.input) m.history c.put.new.self c.args.at c.args.bytes.now _ _ c.if-ok.true c.requires c.in-Ok.ensures.ok

pub returns-in-Ok-clause-moments : goal.returns-in-Ok-clause-moments
returns-in-Ok-clause-moments c = let m = c.args.self.now in put_moments _ _ m.taken m.taken (drop m.taken m.input) _ m.history c.put.new.self c.args.at c.args.bytes.now _ c.in-Ok.ensures.ok

pub returns-in-Ok-2-clause-contents : goal.returns-in-Ok-2-clause-contents
returns-in-Ok-2-clause-contents c = let m = c.args.self.now in put_told _ _ m.taken (drop m.taken m.input) m.history c.put.new.self c.args.at c.args.bytes.now _ _ tt c.requires c.in-Ok.ensures.ok

pub returns-in-Ok-2-clause-moments : goal.returns-in-Ok-2-clause-moments
returns-in-Ok-2-clause-moments c = let m = c.args.self.now in put_moments _ _ m.taken m.taken (drop m.taken m.input) _ m.history c.put.new.self c.args.at c.args.bytes.now _ c.in-Ok.ensures.ok
