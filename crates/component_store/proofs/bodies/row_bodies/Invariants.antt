use Rattle.std.proofs.Common.{◌≤◌, ◌+◌, length}
use Rattle.std.specs.Prelude.{IfSome}
use Rattle.std.specs.List.{AllByRecursion}
use Rattle.std.specs.Vec.Iter.{into_iter_items}
use Rattle.journal_core.specs.Frames.{frames}
use Rattle.commit_records.specs.Changes.{HaveDigests, anchors_room}
use Rattle.device_config.specs.declared.config.Config.{Config}
use Rattle.device_state.specs.State.{rows_weight}
use Rattle.device_state.specs.Valid.{AreFew}
use Rattle.component_store.specs.Replacing.{row_changes}
use Rattle.component_store.proofs.Replacing.{Going}
use Rattle.component_store.proofs.bodies.row_bodies.Given as goal

-- the bodies so far lead to where the changes that are left go on
abbrev pub invariant-loop-row : goal.invariant-loop-row
invariant-loop-row l = record {
  digests : AllByRecursion HaveDigests (into_iter_items l.row-iterator);
  few : IfSome l.anchors AreFew;
  going : (config : Config) → Going (row_changes l.leaf l.fn.anchors l.fn.rows.items) (row_changes l.leaf l.anchors (into_iter_items l.row-iterator)) l.leaf l.bodies config;
  size : length (frames l.bodies) + anchors_room l.anchors + rows_weight (into_iter_items l.row-iterator) ≤ anchors_room l.fn.anchors + rows_weight l.fn.rows.items;
}
