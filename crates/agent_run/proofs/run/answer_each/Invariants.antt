use Rattle.std.proofs.Common.{◌≡◌, ◌-◌, ◌≤◌, IsTrue}
use Rattle.base_types.specs.declared.limits.TheConstants.{FRAME_IN_LIMIT, INPUT_LIMIT}
use Rattle.board_core.specs.Contents.{NothingPending}
use Rattle.turn_loop.proofs.Caused.{Steady}
use Rattle.turn_loop.proofs.Looping.{Looping}
use Rattle.agent_core.specs.Turns.{Turn, StandsFor}
use Rattle.agent_core.specs.Views.{standing}
use Rattle.agent_run.proofs.run.answer_each.Given as goal

abbrev pub invariant-loop-kind : goal.invariant-loop-kind
invariant-loop-kind g l = record {
  live : IsTrue l.agent.live;
  extent : (g.B.Board.view l.board).extent ≡ g.S.Store.extent l.agent.store;
  most : l.budget.most ≡ INPUT_LIMIT;
  bounded : l.budget.taken ≤ INPUT_LIMIT;
  run : g.B.Source.told → NothingPending (g.B.Board.view l.initial.board) → g.S.Store.keeps l.initial.agent.store (g.B.Board.view l.initial.board).now.disk.bytes →
      Looping Turn StandsFor (standing g.S.Store.state l.initial.agent) FRAME_IN_LIMIT l.budget.taken (g.B.Board.view l.initial.board) (g.B.Board.view l.board)
      (standing g.S.Store.state l.agent) (g.S.Store.keeps l.agent.store);
  steady : Steady (g.B.Board.view l.initial.board) (g.B.Board.view l.board);
}

abbrev pub decreases-loop-kind : goal.decreases-loop-kind
decreases-loop-kind g l = INPUT_LIMIT - l.budget.taken
