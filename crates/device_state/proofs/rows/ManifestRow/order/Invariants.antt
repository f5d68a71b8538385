use Rattle.std.proofs.Common.{◌≡◌, ◌++◌, ◌≤◌, length, take, drop}
use Rattle.device_state.specs.State.{in_order}
use Rattle.device_state.proofs.rows.ManifestRow.order.Given as goal

abbrev pub invariant-loop-place : goal.invariant-loop-place
invariant-loop-place l = record {
  within : l.place ≤ length l.initial.components.items;
  sorted : l.components.items ≡ take l.place l.initial.components.items ++ in_order (drop l.place l.initial.components.items);
  size : length l.components.items ≡ length l.initial.components.items;
}

abbrev pub decreases-loop-place : goal.decreases-loop-place
decreases-loop-place l = l.place
