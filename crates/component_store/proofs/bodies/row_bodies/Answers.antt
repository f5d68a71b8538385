use Rattle.std.proofs.Common.{◌≡◌, ◌∷◌, [], List, Option, None, refl, ap, sym, subst, ◌∙◌, arith}
use Rattle.std.specs.List.{AllByRecursion}
use Rattle.std.specs.Vec.Iter.{into_iter_items}
use Rattle.commit_records.specs.Changes.{ChangeIs, HaveDigests, anchors_room}
use Rattle.trust_anchors.specs.declared.anchors.Anchors.{Anchors}
use Rattle.device_state.specs.declared.change.Change.{Change}
use Rattle.device_state.specs.declared.rows.ManifestRow.{ManifestRow}
use Rattle.device_state.specs.State.{rows_weight}
use Rattle.component_store.specs.Replacing.{row_changes}
use Rattle.component_store.proofs.Replacing.{Going, begun, gone_on, gone_through, frames_more, weight_more}
use Rattle.component_store.proofs.Lists.{no_more}
use Rattle.component_store.proofs.bodies.row_bodies.Goals as goal

pub loop-row-init : goal.loop-row-init
loop-row-init c = rw (c.into_iter-row-iterator.ensures.into_iter_gives.0, c.new-bodies.ensures) (record {
  digests = c.requires.digests;
  few = c.requires.anchors;
  going = λ config. begun (row_changes c.args.leaf c.args.anchors c.args.rows.items) c.args.leaf config;
  size = omega arith;
})

pub loop-row-preserved : goal.loop-row-preserved
loop-row-preserved c =
    let row : ManifestRow = c.in-Some.row in
    let rest : List ManifestRow = into_iter_items c.next.new.self in
    let front : into_iter_items c.loop-row.row-iterator ≡ row ∷ rest = c.in-Some.ensures.steps.0 in
    let body = c.in_ok-row_body.field-0 in
    let taken : c.take.result ≡ c.loop-row.anchors = c.take.ensures.value in
    let gone : c.take.new.self ≡ None = c.take.ensures.after in
    let was = c.loop-row.invariant in
    let change : Change = record { leaf = c.args.leaf; rows = row ∷ []; anchors = c.loop-row.anchors } in
    let is : ChangeIs change body = subst (λ (o : Option Anchors). ChangeIs (record { leaf = c.args.leaf; rows = row ∷ []; anchors = o }) body) taken c.in_ok-row_body.ensures.change in
    let digests : AllByRecursion HaveDigests (row ∷ rest) = subst (λ (rs : List ManifestRow). AllByRecursion HaveDigests rs) front was.digests in
    let all : List Change = row_changes c.args.leaf c.args.anchors c.args.rows.items in
    rw (gone, c.in_ok-push.ensures.ok) (record {
      digests = digests.1;
      few = tt;
      going = λ config. gone_on all (row_changes c.args.leaf None rest) c.args.leaf c.loop-row.bodies config change body refl is
          (subst (λ (rs : List ManifestRow). Going all (row_changes c.args.leaf c.loop-row.anchors rs) c.args.leaf c.loop-row.bodies config) front (was.going config));
      size = omega (
        arith,
        was.size,
        frames_more c.loop-row.bodies body,
        c.in_ok-row_body.ensures.size,
        ap anchors_room taken,
        ap rows_weight front,
        weight_more row rest,
        weight_more row [],
      );
    })

pub returns-clause-lead : goal.returns-clause-lead
returns-clause-lead c = λ config.
    (let all : List Change = row_changes c.args.leaf c.args.anchors c.args.rows.items in
    let none : into_iter_items c.loop-row.row-iterator ≡ [] = no_more c.loop-row.row-iterator.rest.items (sym c.loop-row.row-iterator.rest.ok.0 ∙ c.in-None.ensures.steps.0) in
    gone_through all c.args.leaf c.loop-row.bodies config
    (subst (λ (rs : List ManifestRow). Going all (row_changes c.args.leaf c.loop-row.anchors rs) c.args.leaf c.loop-row.bodies config) none (c.loop-row.invariant.going config)))
