use Rattle.std.proofs.Common.{◌∙◌, take, drop}
use Rattle.device_image.proofs.Replaying.{taken_at}
use Rattle.device_image.proofs.held.Held.take_in_at.Goals as goal

pub returns-clause-taken : goal.returns-clause-taken
returns-clause-taken g c = λ told bodies body fits get.
    let image = (g.B.Board.view c.args.board.now).now.disk.bytes in
    taken_at c.args.self.now c.take_in.new.self c.deref.result.now (take c.place-at.result.1 (drop c.place-at.result.0 image)) body bodies c.args.index c.take_in.result
    (c.deref.ensures.value ∙ c.in_ok-body.ensures.body told) ((c.place-at.ensures.body image bodies fits).body) get c.take_in.ensures.taken
