-- A board over files tells no contents, so what the trait says of its stream asks nothing.
use Rattle.board_core.proofs.file_board.FileBoardSource.TheImpl.Goals as goal

pub read-tells : goal.read-tells
read-tells g c = record { within = c.ensures.within; cause = c.ensures.cause; stream = λ told. absurd told; keeps = c.ensures.keeps }
