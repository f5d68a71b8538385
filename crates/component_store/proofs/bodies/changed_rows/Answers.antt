use Rattle.std.proofs.Common.{◌≡◌, ◌+◌, ◌∷◌, [], List, drop, ap, sym, subst, ◌∙◌, arith, length}
use Rattle.device_state.specs.declared.rows.ManifestRow.{ManifestRow}
use Rattle.device_state.specs.State.{ordered, put_row, put_rows}
use Rattle.device_state.specs.Law.{AreInOrder}
use Rattle.device_state.proofs.Orders.{put_keeps}
use Rattle.component_store.proofs.Lists.{front_at}
use Rattle.component_store.proofs.bodies.changed_rows.Goals as goal

pub loop-row-preserved : goal.loop-row-preserved
loop-row-preserved c =
    let rows : List ManifestRow = c.loop-row.changed.items in
    let more : List ManifestRow = c.args.more.now in
    let row : ManifestRow = c.row-item.result in
    let front : drop c.loop-row.row-index more ≡ row ∷ drop (c.loop-row.row-index + 1) more = front_at more c.loop-row.row-index row c.loop-row-test.true c.row-item.is in
    let placed : c.put.new.rows.items ≡ put_row (ordered row) rows = c.put.ensures.put c.loop-row.invariant.order.ascend
    ∙ ap (λ (r : ManifestRow). put_row r rows) (c.order.ensures ∙ ap ordered c.in_ok-copy.ensures) in
    record {
      room = omega (arith, ap length front, c.put.ensures.len, c.put.ensures.room, c.loop-row.invariant.room);
      order = subst (λ (l : List ManifestRow). AreInOrder l) (sym placed) (put_keeps (row ∷ []) rows c.loop-row.invariant.order);
      put = ap (put_rows (drop (c.loop-row.row-index + 1) more)) placed ∙ ap (λ (ms : List ManifestRow). put_rows ms rows) (sym front) ∙ c.loop-row.invariant.put;
    }
