use Rattle.std.proofs.Common.{◌∙◌, List, ap, sym, arith}
use Rattle.std.specs.Vec.Iter.{into_iter_items}
use Rattle.device_state.specs.declared.rows.ManifestRow.{ManifestRow}
use Rattle.device_state.specs.State.{put_rows}
use Rattle.device_image.proofs.held.put_all.Goals as goal

pub loop-row-preserved : goal.loop-row-preserved
loop-row-preserved c = record {
  room = omega (arith, c.in-Some.ensures.steps.1, c.put_ordered.ensures.len, c.put_ordered.ensures.room, c.loop-row.invariant.room);
  order = c.put_ordered.ensures.order;
  put = ap (put_rows (into_iter_items c.next.new.self)) c.put_ordered.ensures.put ∙ ap (λ (more : List ManifestRow). put_rows more c.loop-row.rows.items) (sym c.in-Some.ensures.steps.0) ∙ c.loop-row.invariant.put;
}
