use Rattle.std.proofs.Common.{drop, arith, ap, length}
use Rattle.board_core.proofs.Told.{load_told, load_moments, long}
use Rattle.board_core.proofs.memory_board.MemoryBoardBoard.load.Goals as goal

pub copy_out-requires : goal.copy_out-requires
copy_out-requires c = omega (arith, c.requires, long c.idle.new.self, ap length c.in-Ok.ensures.ok.first)

pub returns-in-Ok-clause-contents : goal.returns-in-Ok-clause-contents
returns-in-Ok-clause-contents c = let m = c.args.self.now in load_told _ _ m.taken (drop m.taken m.input) m.history c.idle.new.self _ c.args.at c.copy_out.new.buf _ c.in-Ok.ensures.ok c.copy_out.ensures

pub returns-in-Ok-clause-moments : goal.returns-in-Ok-clause-moments
returns-in-Ok-clause-moments c = let m = c.args.self.now in load_moments _ _ m.taken m.taken (drop m.taken m.input) _ m.history c.idle.new.self _ c.in-Ok.ensures.ok

pub returns-in-Ok-2-clause-contents : goal.returns-in-Ok-2-clause-contents
returns-in-Ok-2-clause-contents c = let m = c.args.self.now in load_told _ _ m.taken (drop m.taken m.input) m.history c.idle.new.self _ c.args.at c.args.buf.now _ c.in-Ok.ensures.ok tt

pub returns-in-Ok-2-clause-moments : goal.returns-in-Ok-2-clause-moments
returns-in-Ok-2-clause-moments c = let m = c.args.self.now in load_moments _ _ m.taken m.taken (drop m.taken m.input) _ m.history c.idle.new.self _ c.in-Ok.ensures.ok
