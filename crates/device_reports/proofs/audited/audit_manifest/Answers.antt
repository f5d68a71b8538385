use Rattle.device_reports.specs.Audit.{part_audited}
use Rattle.device_reports.proofs.Going.{goes_on, not_failed}
use Rattle.device_reports.proofs.Placing.{placed_next}
use Rattle.device_reports.proofs.audited.audit_manifest.Goals as goal

pub loop-part-preserved : goal.loop-part-preserved
loop-part-preserved g c = record {
  ascend = c.keep.ensures.ascend;
  goes = goes_on (g.S.Store.keeps c.args.store.now) c.loop-part.invariant.goes c.in_ok-audited.ensures.looks not_failed (λ told kept so.
      placed_next (part_audited (g.S.Store.state c.args.store.now).rows) c.as_slice-part-items.result.now c.loop-part.part-index c.part-item.result c.in_ok-audited.audited
      c.args.all.now.items c.loop-part.all.items c.keep.new.all.items c.loop-part-test.true c.part-item.is (c.in_ok-audited.ensures.audited told kept) so c.in_ok-keep.ensures.put);
}
