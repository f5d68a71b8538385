-- A board over files tells no contents, so what the trait says of them asks nothing.
use Rattle.board_core.proofs.file_board.FileBoardBoard.TheImpl.Goals as goal

pub send-tells : goal.send-tells
send-tells g c = record { cause = c.ensures.cause; contents = λ told. absurd told; moments = λ told. absurd told }

pub load-tells : goal.load-tells
load-tells g c = record { cause = c.ensures.cause; contents = λ told. absurd told; moments = λ told. absurd told }

pub put-tells : goal.put-tells
put-tells g c = record { cause = c.ensures.cause; contents = λ told. absurd told; moments = λ told. absurd told }

pub sync-tells : goal.sync-tells
sync-tells g c = record { cause = c.ensures.cause; contents = λ told. absurd told; moments = λ told. absurd told }
