use Rattle.std.proofs.Common.{sym, ◌∙◌, ◌≡◌, length}
use Rattle.device_config.proofs.load.load_config.Goals as goal

pub returns-clause-loaded : goal.returns-clause-loaded
returns-clause-loaded g c = λ told.
    let measured : length (g.B.Board.view c.args.board.now).now.disk.bytes ≡ (g.B.Board.view c.args.board.now).extent = (g.met.B.Board.laws c.args.board.now told).measured in
    c.config_of.ensures.loaded (g.B.Board.view c.args.board.now).now.disk.bytes (measured ∙ sym c.size-size.ensures.extent) (c.deref.ensures.value ∙ c.in_ok-head.ensures.front told)
