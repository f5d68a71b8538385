use Rattle.std.proofs.Common.{drop, ◌↔◌}
use Rattle.std.specs.List.{AllByRecursion}
use Rattle.device_state.specs.Valid.{IsComponent}
use Rattle.device_state.proofs.sound.are_components.Given as goal

abbrev pub invariant-loop-component : goal.invariant-loop-component
invariant-loop-component l = AllByRecursion IsComponent (drop l.component-index l.components) ↔ AllByRecursion IsComponent l.components
