use Rattle.std.proofs.Common.{◌≡◌, length, sym, subst, ◌∙◌, arith}
use Rattle.std.proofs.lemmas.List.{nil_from_length}
use Rattle.std.specs.Vec.Iter.{into_iter_items}
use Rattle.manifest_judge.specs.Stages.{Finds}
use Rattle.manifest_judge.specs.Claims.{IsMade}
use Rattle.manifest_judge.proofs.Making.{as_many, one_more, one_is_none, all_made}
use Rattle.manifest_judge.proofs.components.components_of.Goals as goal

pub returns-then-ids-len : goal.returns-then-ids-len
returns-then-ids-len c = λ cs are.
    c.if-ids-len.true (as_many c.args.ids.now c.args.built cs are ∙ sym c.len.ensures)

pub returns-in-None-2 : goal.returns-in-None-2
returns-in-None-2 c =
    let found = subst (Finds (IsMade c.index-ids-place.result c.in-Some.built)) c.in-None-2.is c.in_ok-component.ensures in
    one_is_none c.args.ids.now c.args.built c.loop-built.place (into_iter_items c.loop-built.built-iterator) c.loop-built.components c.in-Some.built (into_iter_items c.next.new.self) c.index-ids-place.result _
    (omega (arith, c.in-Some.ensures.steps.1, c.loop-built.invariant.size)) c.index-ids-place.is c.in-Some.ensures.steps.0 c.loop-built.invariant.going found

pub loop-built-preserved : goal.loop-built-preserved
loop-built-preserved c = record {
  going = (
      let found = subst (Finds (IsMade c.index-ids-place.result c.in-Some.built)) c.in-Some-2.is c.in_ok-component.ensures in
      one_more c.args.ids.now c.args.built c.loop-built.place (into_iter_items c.loop-built.built-iterator) c.loop-built.components c.in-Some.built (into_iter_items c.next.new.self) c.index-ids-place.result _
      (omega (arith, c.in-Some.ensures.steps.1, c.loop-built.invariant.size)) c.index-ids-place.is c.in-Some.ensures.steps.0 c.loop-built.invariant.going
      c.in-Some-2.component c.push.new.self c.in_ok-push-in-Some-2.ensures.ok found);
  size = omega (arith, c.in-Some.ensures.steps.1, c.loop-built.invariant.size);
}

pub returns : goal.returns
returns c =
    let it = c.loop-built.built-iterator in
    let none : length (into_iter_items it) ≡ 0 = sym it.rest.ok.0 ∙ c.in-None.ensures.steps.0 in
    all_made c.args.ids.now c.args.built c.loop-built.place (into_iter_items it) c.loop-built.components c.loop-built.invariant.going (nil_from_length (into_iter_items it) none)
    (omega (arith, c.in-None.ensures.steps.0, c.loop-built.invariant.size))
