use Rattle.std.proofs.Common.{◌≡◌, ◌≤◌, ◌+◌, drop, length, vec_len, vec_capacity}
use Rattle.device_state.specs.State.{put_rows}
use Rattle.device_state.specs.Law.{AreInOrder}
use Rattle.component_store.proofs.bodies.changed_rows.Given as goal

-- the rows that are left make of the rows so far what all make of the first
abbrev pub invariant-loop-row : goal.invariant-loop-row
invariant-loop-row l = record {
  room : vec_len l.changed + length (drop l.row-index l.more) ≤ vec_capacity l.changed;
  order : AreInOrder l.changed.items;
  put : put_rows (drop l.row-index l.more) l.changed.items ≡ put_rows l.more l.rows;
}
