use Rattle.std.proofs.Common.{◌≡◌, ◌+◌, ◌*◌, ◌-◌, []}
use Rattle.cbor_core.specs.Reading.{items_at, pairs_at, item_at}
use Rattle.cbor_span.specs.Ending.{ending}
use Rattle.cbor_span.proofs.walk.+walk.Given as goal

abbrev pub decreases-skip_content : goal.decreases-skip_content
decreases-skip_content l = 4 * l.depth + 1

abbrev pub decreases-skip_item : goal.decreases-skip_item
decreases-skip_item l = 4 * l.depth + 2

abbrev pub decreases-skip_array : goal.decreases-skip_array
decreases-skip_array l = 4 * l.depth

abbrev pub decreases-skip_tag : goal.decreases-skip_tag
decreases-skip_tag l = 4 * l.depth

abbrev pub decreases-skip_items : goal.decreases-skip_items
decreases-skip_items l = 4 * l.depth + 3

abbrev pub invariant-skip_items-loop : goal.invariant-skip_items-loop
invariant-skip_items-loop l = ending (items_at (item_at l.depth) (l.n - l.counter) [] l.input) ≡ ending (items_at (item_at l.depth) l.n [] l.fn.input)

abbrev pub decreases-skip_map : goal.decreases-skip_map
decreases-skip_map l = 4 * l.depth

abbrev pub decreases-skip_pairs : goal.decreases-skip_pairs
decreases-skip_pairs l = 4 * l.depth + 3

abbrev pub invariant-skip_pairs-loop : goal.invariant-skip_pairs-loop
invariant-skip_pairs-loop l = ending (pairs_at (item_at l.depth) (l.n - l.counter) [] l.last l.input) ≡ ending (pairs_at (item_at l.depth) l.n [] [] l.fn.input)
