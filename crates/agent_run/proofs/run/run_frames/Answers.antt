use Rattle.std.proofs.Common.{lit<}
use Rattle.base_types.specs.declared.limits.TheConstants.{FRAME_IN_LIMIT, INPUT_LIMIT}
use Rattle.turn_loop.proofs.Exactly.{exactly}
use Rattle.agent_core.specs.Turns.{Turn, StandsFor}
use Rattle.agent_core.specs.Views.{standing}
use Rattle.agent_run.proofs.run.run_frames.Goals as goal

pub returns-clause-exactly : goal.returns-clause-exactly
returns-clause-exactly g c = λ told clean kept nothing memory frames end events.
    exactly Turn StandsFor (standing g.S.Store.state c.args.agent.now) FRAME_IN_LIMIT INPUT_LIMIT (lit< tt) (g.B.Board.view c.args.board.now) (g.B.Board.view c.answer_each.new.board)
    frames end events c.answer_each.result (c.answer_each.ensures.ran told clean kept) c.answer_each.ensures.cause nothing memory
