use Rattle.std.proofs.Common.{◌≡◌, ◌≤◌, ◌+◌, drop, length, vec_len, vec_capacity, List}
use Rattle.device_state.specs.declared.rows.ManifestRow.{ManifestRow}
use Rattle.device_state.specs.Heads.{heads}
use Rattle.device_state.specs.State.{put_rows}
use Rattle.device_state.specs.Law.{AreInOrder}
use Rattle.component_store.proofs.prepare.heads_behind.Given as goal

-- the heads so far are those of rows of which the ones that are left make what all make of the first
abbrev pub invariant-loop-row : goal.invariant-loop-row
invariant-loop-row l = (so_far : List ManifestRow) × record {
  heads_are : l.behind.items ≡ heads so_far;
  room : vec_len l.behind + length (drop l.row-index l.more) ≤ vec_capacity l.behind;
  order : AreInOrder so_far;
  put : put_rows (drop l.row-index l.more) so_far ≡ put_rows l.more l.rows;
}
