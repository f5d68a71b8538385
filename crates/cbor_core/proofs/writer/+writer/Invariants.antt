use Rattle.std.proofs.Common.{◌≤◌, length, drop}
use Rattle.std.specs.List.{slice_range}
use Rattle.cbor_core.proofs.Written.{ItemsLeft, PairsLeft}
use Rattle.cbor_core.proofs.writer.+writer.Given as goal

abbrev pub invariant-push_items-loop-item : goal.invariant-push_items-loop-item
invariant-push_items-loop-item l = ItemsLeft l.depth l.items (drop l.item-index l.items) l.fn.out l.out

abbrev pub invariant-push_pairs-loop-pair : goal.invariant-push_pairs-loop-pair
invariant-push_pairs-loop-pair l = record {
  left : PairsLeft l.depth l.pairs (drop l.pair-index l.pairs) (slice_range l.out l.last_start l.last_end) l.fn.out l.out;
  ordered : l.last_start ≤ l.last_end;
  within : l.last_end ≤ length l.out;
}
