use Rattle.std.proofs.Common.{◌≡◌, true, false, Some, refl, sym, subst, ◌∙◌}
use Rattle.trust_anchors.specs.declared.anchors.Anchors.{Anchors}
use Rattle.device_state.specs.State.{with_anchors}
use Rattle.device_image.specs.Held.{head_of}
use Rattle.component_store.specs.Replacing.{AnchorsFor}
use Rattle.component_store.proofs.Replacing.{anchors_none, anchors_some, anchors_same, anchors_equal}
use Rattle.component_store.proofs.bodies.anchors_to_write.Goals as goal

pub returns-then-eq : goal.returns-then-eq
returns-then-eq c = record {
  same = anchors_none c.args.held.now.first_anchors c.args.change.now.anchors c.args.held.now.config
      (sym c.anchors_behind-behind.ensures ∙ anchors_same c.anchors_behind-behind.result.now c.anchors_in_head.result.now (sym c.eq.ensures ∙ c.if-eq.true) ∙ c.anchors_in_head.ensures);
  none = λ same. refl;
  few = λ few. tt;
}

pub returns : goal.returns
returns c =
    let becomes = with_anchors c.args.change.now.anchors c.args.held.now.config in
    subst (λ (a : Anchors). AnchorsFor (head_of c.args.held.now) becomes (Some a)) (sym (c.in_ok-copied_anchors.ensures ∙ c.anchors_behind-behind.ensures)) (record {
      same = anchors_some c.args.held.now.first_anchors c.args.change.now.anchors c.args.held.now.config;
      none = λ equal.
          (let here : c.anchors_behind-behind.result.now ≡ c.anchors_in_head.result.now = c.anchors_behind-behind.ensures ∙ equal ∙ sym c.anchors_in_head.ensures in
          let no : false ≡ true = sym c.if-eq.false ∙ c.eq.ensures ∙ anchors_equal c.anchors_behind-behind.result.now c.anchors_in_head.result.now here in
          absurd cc);
      few = λ few. few;
    })
