use Rattle.std.proofs.Common.{◌≡◌, ◌+◌, ℕ, ◌∷◌, List, drop, Some, None, ap, sym, ◌∙◌}
use Rattle.std.specs.Prelude.{nat_eq, option_map}
use Rattle.std.specs.Option.{option_copied}
use Rattle.std.specs.List.{find}
use Rattle.std.specs.Cmp.Lexicographic.{pointwise}
use Rattle.device_state.specs.declared.rows.ComponentRow.{ComponentRow}
use Rattle.device_state.specs.declared.rows.ManifestRow.{ManifestRow}
use Rattle.component_store.specs.Keeping.{Log, image_in, components}
use Rattle.component_store.proofs.Lists.{front_at, found_in_front, found_behind}
use Rattle.component_store.proofs.log_store.LogStore.image_of.Goals as goal

pub returns-in-Some : goal.returns-in-Some
returns-in-Some c =
    let id : List ℕ = c.args.id.now in
    let rows : List ManifestRow = c.as_slice-row-items.result.now in
    let row : ManifestRow = c.row-item.result in
    let rest : List ManifestRow = drop (c.loop-row.row-index + 1) rows in
    let component : ComponentRow = c.in-Some.component.now in
    let front : drop c.loop-row.row-index rows ≡ row ∷ rest = front_at rows c.loop-row.row-index row c.loop-row-test.true c.row-item.is in
    let found : find (λ (k : ComponentRow). pointwise nat_eq k.id id) row.components ≡ Some component = sym c.component_of.ensures ∙ ap option_copied c.in-Some.is in
    let here : image_in id (row ∷ rest) ≡ Some component.bytes = ap (option_map (λ (k : ComponentRow). k.bytes)) (found_in_front (λ (k : ComponentRow). pointwise nat_eq k.id id) row.components (components rest) component found) in
    ap (λ (bytes : List ℕ). Some bytes) c.in_ok-try_clone.ensures ∙ sym here ∙ ap (image_in id) (sym front) ∙ c.loop-row.invariant
    ∙ ap (image_in id) c.as_slice-row-items.ensures.value ∙ ap (λ (log : Log). image_in id log.held.rows.items) c.self.view_is

pub loop-row-preserved : goal.loop-row-preserved
loop-row-preserved c =
    let id : List ℕ = c.args.id.now in
    let rows : List ManifestRow = c.as_slice-row-items.result.now in
    let row : ManifestRow = c.row-item.result in
    let rest : List ManifestRow = drop (c.loop-row.row-index + 1) rows in
    let front : drop c.loop-row.row-index rows ≡ row ∷ rest = front_at rows c.loop-row.row-index row c.loop-row-test.true c.row-item.is in
    let none : find (λ (k : ComponentRow). pointwise nat_eq k.id id) row.components ≡ None = sym c.component_of.ensures ∙ ap option_copied c.in_default.is in
    sym (ap (option_map (λ (k : ComponentRow). k.bytes)) (found_behind (λ (k : ComponentRow). pointwise nat_eq k.id id) row.components (components rest) none)) ∙ ap (image_in id) (sym front) ∙ c.loop-row.invariant
