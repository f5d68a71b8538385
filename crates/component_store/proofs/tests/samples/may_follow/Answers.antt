use Rattle.std.proofs.Common.{◌≡◌, ◌≤◌, List, ap, sym, subst, ◌∙◌, arith}
use Rattle.device_state.specs.declared.rows.ManifestRow.{ManifestRow}
use Rattle.device_state.specs.State.{put_rows}
use Rattle.device_state.specs.Valid.{IsSound}
use Rattle.component_store.proofs.Following.{follows, told_by}
use Rattle.component_store.proofs.tests.samples.may_follow.Goals as goal

pub returns : goal.returns
returns c = rw (sym c.store.view_is)
    (let held = c.store.inside.held in
    let change = c.args.change.now in
    let rows : List ManifestRow = c.as_slice-4.result.now in
    let same : rows ≡ put_rows change.rows held.rows.items = c.as_slice-4.ensures.value ∙ c.in_ok-rows.ensures
    ∙ ap (λ (rs : List ManifestRow). put_rows rs c.as_slice.result.now) c.as_slice-2.ensures ∙ ap (put_rows change.rows) c.as_slice.ensures.value in
    let own = subst (λ (rs : List ManifestRow). IsSound (record { config = held.config; leaf = change.leaf; rows = rs })) c.as_slice-3.ensures (c.in_ok-is_sound.ensures.0 c.if-not-branch.false) in
    let leaf : held.leaf ≤ change.leaf = omega (arith, c.if-change-held.false) in
    told_by c.is_sound-2.result c.is_sound-2.ensures (follows held change rows same (c.are_few.ensures c.if-not-are_few.false) leaf own))
