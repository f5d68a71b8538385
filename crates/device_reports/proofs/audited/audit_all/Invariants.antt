use Rattle.std.proofs.Common.{◌≡◌, [], take}
use Rattle.device_state.specs.Places.{Ascend}
use Rattle.device_reports.specs.Audit.{heads_audited, placed}
use Rattle.device_reports.proofs.Going.{Goes}
use Rattle.device_reports.proofs.Placing.{key}
use Rattle.device_reports.proofs.audited.audit_all.Given as goal

abbrev pub invariant-loop-row : goal.invariant-loop-row
invariant-loop-row g l = record {
  ascend : Ascend key l.all.items;
  goes : Goes g.B.Source.told (g.S.Store.keeps l.fn.store (g.B.Board.view l.fn.board).now.disk.bytes)
      (l.all.items ≡ placed (heads_audited (g.S.Store.state l.fn.store).rows (take l.row-index l.row-items)) [])
      (g.B.Board.view l.fn.board) (g.B.Board.view l.board);
}
