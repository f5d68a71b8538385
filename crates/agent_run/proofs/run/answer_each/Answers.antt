use Rattle.std.proofs.Common.{◌∙◌, refl, sym, arith}
use Rattle.base_types.specs.declared.limits.TheConstants.{FRAME_IN_LIMIT, INPUT_LIMIT}
use Rattle.frames.specs.declared.next.Next.TheVariants.{Whole, Long, Cut, Spent, ReadFault, NoMemory}
use Rattle.turn_loop.specs.declared.answer.Answer.TheVariants as turns
use Rattle.turn_loop.specs.declared.stop.Stop.TheVariants as stops
use Rattle.turn_loop.proofs.Caused.{looked, turned, blameless, read_failed, send_failed, disk_failed, steady_none}
use Rattle.turn_loop.proofs.Looping.{starts, left, after}
use Rattle.agent_core.specs.Turns.{Turn, StandsFor}
use Rattle.agent_core.specs.Views.{standing}
use Rattle.agent_run.proofs.run.answer_each.Goals as goal

pub loop-kind-init : goal.loop-kind-init
loop-kind-init g c = record {
  live = c.requires.live;
  extent = c.requires.extent;
  most = c.new-budget.ensures.most;
  bounded = omega (arith, c.new-budget.ensures.taken);
  run = λ told clean kept. starts Turn StandsFor _ FRAME_IN_LIMIT c.new-budget.result.taken c.new-budget.ensures.taken (g.B.Board.view c.args.board.now) (g.S.Store.keeps c.args.agent.now.store)
      (g.met.B.Board.laws c.args.board.now told) clean kept (g.met.S.Store.stands c.args.agent.now.store _ kept);
  steady = steady_none (g.B.Board.view c.args.board.now);
}

pub loop-kind-preserved : goal.loop-kind-preserved
loop-kind-preserved g c =
    let old = g.B.Board.view c.args.board.now in
    let mid = g.B.Board.view c.loop-kind.board in
    let new = g.B.Board.view c.look.new.board in
    record {
      live = c.in-Sent.ensures.live refl;
      extent = c.in-Sent.ensures.cause.extent ∙ c.look.ensures.alone.extent ∙ c.loop-kind.invariant.extent ∙ sym c.answer.ensures.extent;
      most = c.look.ensures.most;
      bounded = c.look.ensures.bounded;
      run = λ told clean kept. after Turn StandsFor (standing g.S.Store.state c.args.agent.now) FRAME_IN_LIMIT INPUT_LIMIT _ old mid new _ (g.S.Store.keeps c.loop-kind.agent.store) (λ image kept. g.met.S.Store.stands c.loop-kind.agent.store image kept)
          (c.loop-kind.invariant.run told clean kept) _ (c.look.ensures.took told) (c.look.ensures.alone.same told) (c.look.ensures.alone.moments told) c.look.ensures.bounded
          _ (c.in-Got.ensures.next told) (g.B.Board.view c.answer.new.board) (standing g.S.Store.state c.answer.new.agent) (g.S.Store.keeps c.answer.new.agent.store) turns.Sent (c.in-Sent.ensures.turned told);
      steady = turned (looked c.loop-kind.invariant.steady c.look.ensures.alone c.in-Got.ensures.cause (λ f. f)) c.in-Sent.ensures.cause (λ is. cc) (λ is. cc);
    }

pub returns-in-SendFault-clause-ran : goal.returns-in-SendFault-clause-ran
returns-in-SendFault-clause-ran g c = λ told clean kept.
    let old = g.B.Board.view c.args.board.now in
    let mid = g.B.Board.view c.loop-kind.board in
    let new = g.B.Board.view c.look.new.board in
    after Turn StandsFor (standing g.S.Store.state c.args.agent.now) FRAME_IN_LIMIT INPUT_LIMIT _ old mid new _ (g.S.Store.keeps c.loop-kind.agent.store) (λ image kept. g.met.S.Store.stands c.loop-kind.agent.store image kept)
    (c.loop-kind.invariant.run told clean kept) _ (c.look.ensures.took told) (c.look.ensures.alone.same told) (c.look.ensures.alone.moments told) c.look.ensures.bounded
    _ (c.in-Got.ensures.next told) (g.B.Board.view c.answer.new.board) (standing g.S.Store.state c.answer.new.agent) (g.S.Store.keeps c.answer.new.agent.store) turns.SendFault (c.in-SendFault.ensures.turned told)

pub returns-in-SendFault-clause-cause : goal.returns-in-SendFault-clause-cause
returns-in-SendFault-clause-cause g c = send_failed (looked c.loop-kind.invariant.steady c.look.ensures.alone c.in-Got.ensures.cause (λ f. f)) c.in-SendFault.ensures.cause

pub returns-in-DiskFault-clause-ran : goal.returns-in-DiskFault-clause-ran
returns-in-DiskFault-clause-ran g c = λ told clean kept.
    let old = g.B.Board.view c.args.board.now in
    let mid = g.B.Board.view c.loop-kind.board in
    let new = g.B.Board.view c.look.new.board in
    after Turn StandsFor (standing g.S.Store.state c.args.agent.now) FRAME_IN_LIMIT INPUT_LIMIT _ old mid new _ (g.S.Store.keeps c.loop-kind.agent.store) (λ image kept. g.met.S.Store.stands c.loop-kind.agent.store image kept)
    (c.loop-kind.invariant.run told clean kept) _ (c.look.ensures.took told) (c.look.ensures.alone.same told) (c.look.ensures.alone.moments told) c.look.ensures.bounded
    _ (c.in-Got.ensures.next told) (g.B.Board.view c.answer.new.board) (standing g.S.Store.state c.answer.new.agent) (g.S.Store.keeps c.answer.new.agent.store) turns.DiskFault (c.in-DiskFault.ensures.turned told)

pub returns-in-DiskFault-clause-cause : goal.returns-in-DiskFault-clause-cause
returns-in-DiskFault-clause-cause g c = disk_failed (looked c.loop-kind.invariant.steady c.look.ensures.alone c.in-Got.ensures.cause (λ f. f)) c.in-DiskFault.ensures.cause

pub returns-in-NoMemory-answer-clause-ran : goal.returns-in-NoMemory-answer-clause-ran
returns-in-NoMemory-answer-clause-ran g c = λ told clean kept.
    let old = g.B.Board.view c.args.board.now in
    let mid = g.B.Board.view c.loop-kind.board in
    let new = g.B.Board.view c.look.new.board in
    after Turn StandsFor (standing g.S.Store.state c.args.agent.now) FRAME_IN_LIMIT INPUT_LIMIT _ old mid new _ (g.S.Store.keeps c.loop-kind.agent.store) (λ image kept. g.met.S.Store.stands c.loop-kind.agent.store image kept)
    (c.loop-kind.invariant.run told clean kept) _ (c.look.ensures.took told) (c.look.ensures.alone.same told) (c.look.ensures.alone.moments told) c.look.ensures.bounded
    _ (c.in-Got.ensures.next told) (g.B.Board.view c.answer.new.board) (standing g.S.Store.state c.answer.new.agent) (g.S.Store.keeps c.answer.new.agent.store) turns.NoMemory (c.in-NoMemory-answer.ensures.turned told)

pub returns-in-NoMemory-answer-clause-cause : goal.returns-in-NoMemory-answer-clause-cause
returns-in-NoMemory-answer-clause-cause g c = blameless stops.NoMemory (λ is. cc) (λ is. cc) (λ is. cc) (turned (looked c.loop-kind.invariant.steady c.look.ensures.alone c.in-Got.ensures.cause (λ f. f)) c.in-NoMemory-answer.ensures.cause (λ is. cc) (λ is. cc))

pub returns-in-Whole-clause-ran : goal.returns-in-Whole-clause-ran
returns-in-Whole-clause-ran g c = λ told clean kept.
    let old = g.B.Board.view c.args.board.now in
    let mid = g.B.Board.view c.loop-kind.board in
    let new = g.B.Board.view c.look.new.board in
    left Turn StandsFor (standing g.S.Store.state c.args.agent.now) FRAME_IN_LIMIT INPUT_LIMIT _ old mid new _ (g.S.Store.keeps c.loop-kind.agent.store) (λ image kept. g.met.S.Store.stands c.loop-kind.agent.store image kept)
    (c.loop-kind.invariant.run told clean kept) _ (c.look.ensures.took told) (c.look.ensures.alone.same told) (c.look.ensures.alone.moments told) c.look.ensures.bounded Whole c.in-Whole.ensures.grows (c.in-Whole.ensures.next told)

pub returns-in-Whole-clause-cause : goal.returns-in-Whole-clause-cause
returns-in-Whole-clause-cause g c = blameless stops.Whole (λ is. cc) (λ is. cc) (λ is. cc) (looked c.loop-kind.invariant.steady c.look.ensures.alone c.in-Whole.ensures.cause (λ f. f))

pub returns-in-Long-clause-ran : goal.returns-in-Long-clause-ran
returns-in-Long-clause-ran g c = λ told clean kept.
    let old = g.B.Board.view c.args.board.now in
    let mid = g.B.Board.view c.loop-kind.board in
    let new = g.B.Board.view c.look.new.board in
    left Turn StandsFor (standing g.S.Store.state c.args.agent.now) FRAME_IN_LIMIT INPUT_LIMIT _ old mid new _ (g.S.Store.keeps c.loop-kind.agent.store) (λ image kept. g.met.S.Store.stands c.loop-kind.agent.store image kept)
    (c.loop-kind.invariant.run told clean kept) _ (c.look.ensures.took told) (c.look.ensures.alone.same told) (c.look.ensures.alone.moments told) c.look.ensures.bounded Long c.in-Long.ensures.grows (c.in-Long.ensures.next told)

pub returns-in-Long-clause-cause : goal.returns-in-Long-clause-cause
returns-in-Long-clause-cause g c = blameless stops.Long (λ is. cc) (λ is. cc) (λ is. cc) (looked c.loop-kind.invariant.steady c.look.ensures.alone c.in-Long.ensures.cause (λ f. f))

pub returns-in-Cut-clause-ran : goal.returns-in-Cut-clause-ran
returns-in-Cut-clause-ran g c = λ told clean kept.
    let old = g.B.Board.view c.args.board.now in
    let mid = g.B.Board.view c.loop-kind.board in
    let new = g.B.Board.view c.look.new.board in
    left Turn StandsFor (standing g.S.Store.state c.args.agent.now) FRAME_IN_LIMIT INPUT_LIMIT _ old mid new _ (g.S.Store.keeps c.loop-kind.agent.store) (λ image kept. g.met.S.Store.stands c.loop-kind.agent.store image kept)
    (c.loop-kind.invariant.run told clean kept) _ (c.look.ensures.took told) (c.look.ensures.alone.same told) (c.look.ensures.alone.moments told) c.look.ensures.bounded Cut c.in-Cut.ensures.grows (c.in-Cut.ensures.next told)

pub returns-in-Cut-clause-cause : goal.returns-in-Cut-clause-cause
returns-in-Cut-clause-cause g c = blameless stops.Cut (λ is. cc) (λ is. cc) (λ is. cc) (looked c.loop-kind.invariant.steady c.look.ensures.alone c.in-Cut.ensures.cause (λ f. f))

pub returns-in-Spent-clause-ran : goal.returns-in-Spent-clause-ran
returns-in-Spent-clause-ran g c = λ told clean kept.
    let old = g.B.Board.view c.args.board.now in
    let mid = g.B.Board.view c.loop-kind.board in
    let new = g.B.Board.view c.look.new.board in
    left Turn StandsFor (standing g.S.Store.state c.args.agent.now) FRAME_IN_LIMIT INPUT_LIMIT _ old mid new _ (g.S.Store.keeps c.loop-kind.agent.store) (λ image kept. g.met.S.Store.stands c.loop-kind.agent.store image kept)
    (c.loop-kind.invariant.run told clean kept) _ (c.look.ensures.took told) (c.look.ensures.alone.same told) (c.look.ensures.alone.moments told) c.look.ensures.bounded Spent c.in-Spent.ensures.grows (c.in-Spent.ensures.next told)

pub returns-in-Spent-clause-cause : goal.returns-in-Spent-clause-cause
returns-in-Spent-clause-cause g c = blameless stops.Spent (λ is. cc) (λ is. cc) (λ is. cc) (looked c.loop-kind.invariant.steady c.look.ensures.alone c.in-Spent.ensures.cause (λ f. f))

pub returns-in-ReadFault-clause-ran : goal.returns-in-ReadFault-clause-ran
returns-in-ReadFault-clause-ran g c = λ told clean kept.
    let old = g.B.Board.view c.args.board.now in
    let mid = g.B.Board.view c.loop-kind.board in
    let new = g.B.Board.view c.look.new.board in
    left Turn StandsFor (standing g.S.Store.state c.args.agent.now) FRAME_IN_LIMIT INPUT_LIMIT _ old mid new _ (g.S.Store.keeps c.loop-kind.agent.store) (λ image kept. g.met.S.Store.stands c.loop-kind.agent.store image kept)
    (c.loop-kind.invariant.run told clean kept) _ (c.look.ensures.took told) (c.look.ensures.alone.same told) (c.look.ensures.alone.moments told) c.look.ensures.bounded ReadFault c.in-ReadFault.ensures.grows (c.in-ReadFault.ensures.next told)

pub returns-in-ReadFault-clause-cause : goal.returns-in-ReadFault-clause-cause
returns-in-ReadFault-clause-cause g c = read_failed c.loop-kind.invariant.steady c.look.ensures.alone c.in-ReadFault.ensures.cause tt

pub returns-in-NoMemory-clause-ran : goal.returns-in-NoMemory-clause-ran
returns-in-NoMemory-clause-ran g c = λ told clean kept.
    let old = g.B.Board.view c.args.board.now in
    let mid = g.B.Board.view c.loop-kind.board in
    let new = g.B.Board.view c.look.new.board in
    left Turn StandsFor (standing g.S.Store.state c.args.agent.now) FRAME_IN_LIMIT INPUT_LIMIT _ old mid new _ (g.S.Store.keeps c.loop-kind.agent.store) (λ image kept. g.met.S.Store.stands c.loop-kind.agent.store image kept)
    (c.loop-kind.invariant.run told clean kept) _ (c.look.ensures.took told) (c.look.ensures.alone.same told) (c.look.ensures.alone.moments told) c.look.ensures.bounded NoMemory c.in-NoMemory.ensures.grows (c.in-NoMemory.ensures.next told)

pub returns-in-NoMemory-clause-cause : goal.returns-in-NoMemory-clause-cause
returns-in-NoMemory-clause-cause g c = blameless stops.NoMemory (λ is. cc) (λ is. cc) (λ is. cc) (looked c.loop-kind.invariant.steady c.look.ensures.alone c.in-NoMemory.ensures.cause (λ f. f))
