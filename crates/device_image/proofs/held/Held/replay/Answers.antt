use Rattle.std.proofs.Common.{arith}
use Rattle.std.proofs.lemmas.Result.{err_from_is_err_and}
use Rattle.device_image.specs.Held.{state_of}
use Rattle.device_image.proofs.Replaying.{going_started, going_on, going_ended, going_done, within_still, index_still, went_well}
use Rattle.device_image.proofs.held.Held.replay.Goals as goal

pub loop-index-init : goal.loop-index-init
loop-index-init g c = going_started g.B.Source.told c.args.self.now (g.B.Board.view c.args.board.now) c.requires.new

pub take_in_at-requires-clause-index : goal.take_in_at-requires-clause-index
take_in_at-requires-clause-index g c = index_still g.B.Source.told c.args.self.now (g.B.Board.view c.args.board.now) c.loop-index.self (g.B.Board.view c.loop-index.board) c.loop-index.index
    c.loop-index.invariant (omega (arith, c.loop-index-test.true, c.count-count.ensures.places))

pub take_in_at-requires-clause-within : goal.take_in_at-requires-clause-within
take_in_at-requires-clause-within g c = within_still g.B.Source.told c.args.self.now (g.B.Board.view c.args.board.now) c.loop-index.self (g.B.Board.view c.loop-index.board) c.loop-index.index
    c.loop-index.invariant c.requires.within

pub take_in_at-requires-clause-order : goal.take_in_at-requires-clause-order
take_in_at-requires-clause-order g c = c.loop-index.invariant.is_of.order

pub loop-index-preserved : goal.loop-index-preserved
loop-index-preserved g c =
    let old = g.B.Board.view c.args.board.now in
    going_on g.B.Source.told c.args.self.now old c.loop-index.self (g.B.Board.view c.loop-index.board) c.loop-index.index c.loop-index.invariant
    c.take_in_at.new.self c.in_ok-take_in_at.ensures.is_of went_well c.in_ok-take_in_at.ensures.cause c.take_in_at.ensures.same c.take_in_at.ensures.moments
    (λ told bodies fits. omega (arith, c.loop-index-test.true, c.count-count.ensures.bodies old.now.disk.bytes bodies fits)) c.in_ok-take_in_at.ensures.taken

pub returns-in_err-take_in_at-clause-replayed : goal.returns-in_err-take_in_at-clause-replayed
returns-in_err-take_in_at-clause-replayed g c = λ told bodies fits.
    let old = g.B.Board.view c.args.board.now in
    let p = err_from_is_err_and c.from_residual.result c.from_residual.ensures.1 in
    rw (p.1, p.2)
    (going_ended g.B.Source.told c.args.self.now old c.loop-index.self (g.B.Board.view c.loop-index.board) c.loop-index.index c.loop-index.invariant
    c.in_err-take_in_at.field-0.0 c.take_in_at.new.self (state_of c.take_in_at.new.self) told bodies fits
    (omega (arith, c.loop-index-test.true, c.count-count.ensures.bodies old.now.disk.bytes bodies fits)) (c.in_err-take_in_at.ensures.taken told bodies))

pub returns-clause-replayed : goal.returns-clause-replayed
returns-clause-replayed g c = λ told bodies fits.
    let old = g.B.Board.view c.args.board.now in
    going_done g.B.Source.told c.args.self.now old c.loop-index.self (g.B.Board.view c.loop-index.board) c.loop-index.index c.loop-index.invariant told bodies fits
    (omega (arith, c.loop-index-test.false, c.count-count.ensures.bodies old.now.disk.bytes bodies fits))
