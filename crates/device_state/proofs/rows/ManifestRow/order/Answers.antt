use Rattle.std.proofs.Common.{List, ◌≡◌, ◌≤◌, ◌+◌, ◌-◌, ◌<◌, ◌++◌, ℕ, take, drop, length, refl, ap, subst, sym, ◌∙◌, arith}
use Rattle.device_state.specs.declared.rows.ComponentRow.{ComponentRow}
use Rattle.device_state.specs.declared.rows.ManifestRow.{ManifestRow}
use Rattle.device_state.specs.State.{in_order}
use Rattle.device_state.specs.Sorting.{IsSunk}
use Rattle.device_state.proofs.Sinking.{order_more, order_start}
use Rattle.device_state.proofs.rows.ManifestRow.order.Goals as goal

pub loop-place-preserved : goal.loop-place-preserved
loop-place-preserved c =
    let first = c.into_vec-components.result.items in
    let items = c.loop-place.components.items in
    let p : ℕ = c.loop-place.place - 1 in
    let next : c.loop-place.place ≡ p + 1 = omega arith in
    let sorted : items ≡ take (p + 1) first ++ in_order (drop (p + 1) first) = subst (λ (n : ℕ). items ≡ take n first ++ in_order (drop n first)) next c.loop-place.invariant.sorted in
    record {
      within = omega arith;
      sorted = order_more first items c.sink.new.components.items p (omega arith) sorted c.sink.ensures.sunk;
      size = c.sink.ensures.len ∙ c.loop-place.invariant.size;
    }

pub loop-place-init : goal.loop-place-init
loop-place-init c = record { within = omega arith; sorted = order_start c.into_vec-components.result.items c.len-place.result (omega arith); size = refl }

pub returns : goal.returns
returns c =
    let place_is : c.loop-place.place ≡ 0 = omega arith in
    let first = c.into_vec-components.result.items in
    let items = c.loop-place.components.items in
    let sorted : items ≡ in_order first = subst (λ (n : ℕ). items ≡ take n first ++ in_order (drop n first)) place_is c.loop-place.invariant.sorted in
    let all : c.from_vec.result ≡ in_order c.args.self.components = c.from_vec.ensures ∙ sorted ∙ ap in_order c.into_vec-components.ensures in
    ap (λ (cs : List ComponentRow). record c.args.self { components = cs }) all
