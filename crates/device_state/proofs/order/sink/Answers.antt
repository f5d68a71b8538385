use Rattle.std.proofs.Common.{List, ap, ◌∙◌, ◌+◌, ◌≡◌, arith, subst, ℕ}
use Rattle.std.specs.List.{insert}
use Rattle.device_state.specs.declared.rows.ComponentRow.{ComponentRow}
use Rattle.device_state.specs.Sorting.{IsCounted}
use Rattle.device_state.proofs.Sinking.{sunk, stays}
use Rattle.device_state.proofs.order.sink.Goals as goal

pub returns-in-Ok-clause-sunk : goal.returns-in-Ok-clause-sunk
returns-in-Ok-clause-sunk c =
    let old = c.args.components.now.items in
    let place = c.args.place in
    let steps = c.steps_from-steps.result in
    let x = c.remove-component.result in
    let counted = rw c.as_slice.ensures.value at c.steps_from-steps.ensures.counted in
    λ d cs front. c.in-Ok.ensures.items ∙ ap (λ (ds : List ComponentRow). insert ds (place + steps) x) c.remove-component.ensures.items
    ∙ sunk old place steps x c.requires c.remove-component.ensures.value counted d cs front

pub returns-else-steps-gt0-clause-sunk : goal.returns-else-steps-gt0-clause-sunk
returns-else-steps-gt0-clause-sunk c =
    let old = c.args.components.now.items in
    let counted = rw c.as_slice.ensures.value at c.steps_from-steps.ensures.counted in
    let none : c.steps_from-steps.result ≡ 0 = omega arith in
    stays old c.args.place (subst (λ (n : ℕ). IsCounted old c.args.place n) none counted)
