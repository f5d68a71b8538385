use Rattle.std.proofs.Common.{◌∙◌, List, ℕ, ap, drop, take, length, min, refl}
use Rattle.board_core.proofs.Told.{reads_told, reads_none_told, none_left, read_alone}
use Rattle.board_core.proofs.memory_board.MemoryBoardSource.read.Goals as goal

pub returns-in-Ok-clause-stream : goal.returns-in-Ok-clause-stream
returns-in-Ok-clause-stream c =
    let m = c.args.self.now in
    let n = c.hand_out-count.result in
    let rest = ap (λ (l : List ℕ). drop m.taken l) c.as_slice.ensures in
    let count = c.hand_out-count.ensures.count ∙ ap (λ (l : List ℕ). min (min (length l) m.piece) (length c.args.buf.now)) rest in
    reads_told n _ c.works-ok.result m.taken m.input m.history c.idle.new.self c.in-Ok.ensures.ok
    (c.hand_out-count.ensures.bytes ∙ ap (λ (l : List ℕ). take n l) rest)
    (none_left n m.taken m.piece (length c.args.buf.now) m.input count m.piece_some c.requires)

pub returns-in-Ok-clause-keeps : goal.returns-in-Ok-clause-keeps
returns-in-Ok-clause-keeps c = let m = c.args.self.now in read_alone _ _ m.taken _ (drop m.taken m.input) _ m.history c.idle.new.self _ c.in-Ok.ensures.ok refl refl

pub returns-in-Ok-2-clause-stream : goal.returns-in-Ok-2-clause-stream
returns-in-Ok-2-clause-stream c = let m = c.args.self.now in reads_none_told _ m.taken (drop m.taken m.input) m.history c.idle.new.self c.in-Ok.ensures.ok

pub returns-in-Ok-2-clause-keeps : goal.returns-in-Ok-2-clause-keeps
returns-in-Ok-2-clause-keeps c = let m = c.args.self.now in read_alone _ _ m.taken m.taken (drop m.taken m.input) _ m.history c.idle.new.self _ c.in-Ok.ensures.ok refl refl
