use Rattle.std.proofs.Common.{◌≡◌, take, map}
use Rattle.device_state.specs.Places.{Ascend}
use Rattle.device_reports.specs.Audit.{part_audited, placed}
use Rattle.device_reports.proofs.Going.{Goes}
use Rattle.device_reports.proofs.Placing.{key}
use Rattle.device_reports.proofs.audited.audit_manifest.Given as goal

abbrev pub invariant-loop-part : goal.invariant-loop-part
invariant-loop-part g l = record {
  ascend : Ascend key l.all.items;
  goes : Goes g.B.Source.told (g.S.Store.keeps l.fn.store (g.B.Board.view l.fn.board).now.disk.bytes)
      (l.all.items ≡ placed (map (part_audited (g.S.Store.state l.fn.store).rows) (take l.part-index l.part-items)) l.fn.all.items)
      (g.B.Board.view l.fn.board) (g.B.Board.view l.board);
}
