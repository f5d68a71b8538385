use Rattle.std.proofs.Common.{◌≡◌, map, take}
use Rattle.device_state.specs.Heads.{part_head}
use Rattle.device_state.proofs.rows.ManifestRow.head.Given as goal

abbrev pub invariant-loop-component : goal.invariant-loop-component
invariant-loop-component l = l.components ≡ map part_head (take l.component-index l.component-items)
