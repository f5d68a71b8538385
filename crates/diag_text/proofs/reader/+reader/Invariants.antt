use Rattle.std.proofs.Common.{◌≡◌, ◌+◌, ◌*◌, ◌-◌, [], length, codes}
use Rattle.diag_text.specs.Reading.{parts_at, member_at, pair_at, item_at}
use Rattle.cbor_core.specs.Faulty.{last_key}
use Rattle.diag_text.proofs.reader.+reader.Given as goal

abbrev pub decreases-read_item : goal.decreases-read_item
decreases-read_item l = 6 * l.depth + 2

abbrev pub decreases-read_plain : goal.decreases-read_plain
decreases-read_plain l = 6 * l.depth + 1

abbrev pub decreases-read_array : goal.decreases-read_array
decreases-read_array l = 6 * l.depth

abbrev pub decreases-read_tag : goal.decreases-read_tag
decreases-read_tag l = 6 * l.depth

abbrev pub decreases-read_map : goal.decreases-read_map
decreases-read_map l = 6 * l.depth

abbrev pub decreases-read_members : goal.decreases-read_members
decreases-read_members l = 6 * l.depth + 3

abbrev pub decreases-read_key : goal.decreases-read_key
decreases-read_key l = 6 * l.depth + 3

abbrev pub decreases-read_pair : goal.decreases-read_pair
decreases-read_pair l = 6 * l.depth + 4

abbrev pub decreases-read_pairs : goal.decreases-read_pairs
decreases-read_pairs l = 6 * l.depth + 5

abbrev pub invariant-read_members-loop : goal.invariant-read_members-loop
invariant-read_members-loop l = parts_at (member_at (item_at l.depth)) (codes "]") (length l.fn.input.rest - l.counter) l.found l.input ≡ parts_at (member_at (item_at l.depth)) (codes "]") (length l.fn.input.rest) [] l.fn.input

abbrev pub invariant-read_pairs-loop : goal.invariant-read_pairs-loop
invariant-read_pairs-loop l = record {
  so_far : parts_at (pair_at (item_at l.depth)) (codes "}") (length l.fn.input.rest - l.counter) l.found l.input ≡ parts_at (pair_at (item_at l.depth)) (codes "}") (length l.fn.input.rest) [] l.fn.input;
  last : l.last ≡ last_key [] l.found;
}
