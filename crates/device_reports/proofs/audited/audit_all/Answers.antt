use Rattle.std.proofs.Common.{List, [], sym, subst}
use Rattle.device_state.specs.Places.{Ascend}
use Rattle.device_reports.specs.declared.findings.Audited.{Audited}
use Rattle.device_reports.specs.Audit.{head_audited}
use Rattle.device_reports.proofs.Going.{goes_on, goes_from, not_failed}
use Rattle.device_reports.proofs.Placing.{key, none_ascend, placed_rows}
use Rattle.device_reports.proofs.audited.audit_all.Goals as goal

pub loop-row-init : goal.loop-row-init
loop-row-init g c = record {
  ascend = subst (λ (all : List Audited). Ascend key all) (sym c.new-all.ensures.items) none_ascend;
  goes = goes_from (g.B.Board.view c.args.board.now) c.new-all.ensures.items;
}

pub loop-row-preserved : goal.loop-row-preserved
loop-row-preserved g c = record {
  ascend = c.audit_manifest.ensures.ascend;
  goes = goes_on (g.S.Store.keeps c.args.store.now) c.loop-row.invariant.goes c.in_ok-audit_manifest.ensures.looks not_failed (λ told kept so.
      placed_rows (head_audited (g.S.Store.state c.args.store.now).rows) c.as_slice-row-items.result.now c.loop-row.row-index c.row-item.result
      [] c.loop-row.all.items c.audit_manifest.new.all.items c.loop-row-test.true c.row-item.is so (c.in_ok-audit_manifest.ensures.audited told kept));
}
