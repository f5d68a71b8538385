use Rattle.std.proofs.Common.{◌≡◌, ◌+◌, ◌∷◌, [], List, drop, ap, sym, subst, ◌∙◌, arith, length}
use Rattle.device_state.specs.declared.rows.ManifestRow.{ManifestRow}
use Rattle.device_state.specs.declared.heads.RowHead.{RowHead}
use Rattle.device_state.specs.Heads.{heads, row_head}
use Rattle.device_state.specs.Places.{put_by, Ascend}
use Rattle.device_state.specs.State.{ordered, put_row, put_rows}
use Rattle.device_state.proofs.Orders.{put_keeps}
use Rattle.component_store.proofs.Lists.{front_at}
use Rattle.component_store.proofs.HeadsBehind.{heads_put, heads_ascend}
use Rattle.component_store.proofs.prepare.heads_behind.Goals as goal

pub loop-row-preserved : goal.loop-row-preserved
loop-row-preserved c =
    let rows : List ManifestRow = c.loop-row.invariant.0 in
    let kept = c.loop-row.invariant.1 in
    let more : List ManifestRow = c.args.more.now in
    let row : ManifestRow = c.row-item.result in
    let front : drop c.loop-row.row-index more ≡ row ∷ drop (c.loop-row.row-index + 1) more = front_at more c.loop-row.row-index row c.loop-row-test.true c.row-item.is in
    let up : Ascend (λ (h : RowHead). h.id) c.loop-row.behind.items = subst (λ (hs : List RowHead). Ascend (λ (h : RowHead). h.id) hs) (sym kept.heads_are) (heads_ascend rows kept.order.ascend) in
    let head_is = c.in_ok-head.ensures ∙ ap row_head (c.order.ensures ∙ ap ordered c.in_ok-copy.ensures) in
    let placed : c.put.new.rows.items ≡ heads (put_row (ordered row) rows) =
    c.put.ensures.put up ∙ ap (put_by (λ (h : RowHead). h.id) c.in_ok-head.field-0) kept.heads_are
    ∙ ap (λ (h : RowHead). put_by (λ (k : RowHead). k.id) h (heads rows)) head_is ∙ sym (heads_put (ordered row) rows) in (
      put_row (ordered row) rows,
      record {
        heads_are = placed;
        room = omega (arith, ap length front, c.put.ensures.len, c.put.ensures.room, kept.room);
        order = put_keeps (row ∷ []) rows kept.order;
        put = ap (λ (ms : List ManifestRow). put_rows ms rows) (sym front) ∙ kept.put;
      },
    )
