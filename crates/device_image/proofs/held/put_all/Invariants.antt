use Rattle.std.proofs.Common.{◌≡◌, ◌≤◌, ◌+◌, vec_len, vec_capacity}
use Rattle.std.specs.Vec.Iter.{into_iter_items, into_iter_len}
use Rattle.device_state.specs.State.{put_rows}
use Rattle.device_state.specs.Law.{AreInOrder}
use Rattle.device_image.proofs.held.put_all.Given as goal

-- the rows that are left make of the rows so far what all make of the first
abbrev pub invariant-loop-row : goal.invariant-loop-row
invariant-loop-row l = record {
  room : vec_len l.rows + into_iter_len l.row-iterator ≤ vec_capacity l.rows;
  order : AreInOrder l.rows.items;
  put : put_rows (into_iter_items l.row-iterator) l.rows.items ≡ put_rows l.fn.more l.fn.rows.items;
}
