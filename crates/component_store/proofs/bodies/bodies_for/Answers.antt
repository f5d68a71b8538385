use Rattle.std.proofs.Common.{◌≡◌, List, ap, sym, subst, ◌∙◌}
use Rattle.device_state.specs.declared.rows.ManifestRow.{ManifestRow}
use Rattle.device_state.specs.State.{put_rows, with_anchors}
use Rattle.device_state.specs.Law.{AreInOrder}
use Rattle.device_state.proofs.Orders.{put_keeps}
use Rattle.device_image.specs.Held.{head_of}
use Rattle.device_image.specs.Stands.{Leads}
use Rattle.component_store.proofs.Replacing.{rows_lead, led, not_empty}
use Rattle.component_store.proofs.bodies.bodies_for.Goals as goal

pub returns-else-is_empty-clause-lead : goal.returns-else-is_empty-clause-lead
returns-else-is_empty-clause-lead c =
    let rows_are : c.in_ok-rows.rows.items ≡ put_rows c.args.change.now.rows c.args.held.now.rows.items =
    c.in_ok-rows.ensures ∙ ap (λ (rs : List ManifestRow). put_rows rs c.as_slice.result.now) c.as_slice-2.ensures ∙ ap (put_rows c.args.change.now.rows) c.as_slice.ensures.value in
    let order : AreInOrder c.in_ok-rows.rows.items = subst (λ (rs : List ManifestRow). AreInOrder rs) (sym rows_are) (put_keeps c.args.change.now.rows c.args.held.now.rows.items c.requires.order) in
    led c.row_bodies.result (λ bodies lead.
    subst (λ (rs : List ManifestRow). Leads (head_of c.args.held.now) bodies (record { config = with_anchors c.args.change.now.anchors c.args.held.now.config; leaf = c.args.change.now.leaf; rows = rs })) rows_are
    (rows_lead c.args.change.now.leaf c.in_ok-anchors.anchors c.in_ok-rows.rows.items (head_of c.args.held.now) (with_anchors c.args.change.now.anchors c.args.held.now.config) bodies order
    (not_empty c.in_ok-rows.rows (sym c.is_empty.ensures ∙ c.if-is_empty.false)) c.in_ok-anchors.ensures.same lead))
    c.row_bodies.ensures.lead
