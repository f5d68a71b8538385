use Rattle.std.proofs.Common.{◌≡◌, ◌++◌, map, take}
use Rattle.device_state.proofs.sound.push_ids.Given as goal

abbrev pub invariant-loop-component : goal.invariant-loop-component
invariant-loop-component l = map (λ id. id.now) l.ids.items ≡ map (λ id. id.now) l.initial.ids.items ++ map (λ c. c.id) (take l.component-index l.components)
