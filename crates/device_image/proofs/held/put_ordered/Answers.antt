use Rattle.std.proofs.Common.{rules, ◌≡◌, List, [], ◌∷◌, sym, subst}
use Rattle.device_state.specs.declared.rows.ManifestRow.{ManifestRow}
use Rattle.device_state.specs.State.{put_rows}
use Rattle.device_state.specs.Law.{AreInOrder}
use Rattle.device_state.proofs.Orders.{put_keeps}
use Rattle.device_image.proofs.held.put_ordered.Goals as goal

pub returns-clause-order : goal.returns-clause-order
returns-clause-order c =
    let row : ManifestRow = c.args.row in
    let rows : List ManifestRow = c.args.rows.now.items in
    let placed : c.put.new.rows.items ≡ put_rows (row ∷ []) rows = search rules in
    subst (λ (l : List ManifestRow). AreInOrder l) (sym placed) (put_keeps (row ∷ []) rows c.requires.order)
