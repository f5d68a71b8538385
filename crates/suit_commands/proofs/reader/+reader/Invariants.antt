use Rattle.std.proofs.Common.{◌≡◌, ◌+◌, ◌*◌, [], drop}
use Rattle.suit_commands.specs.Sequences.{sequence_in}
use Rattle.suit_commands.proofs.Loops.{from, each_from}
use Rattle.suit_commands.proofs.reader.+reader.Given as goal

abbrev pub decreases-read_bytes : goal.decreases-read_bytes
decreases-read_bytes l = 8 * l.levels

abbrev pub decreases-read_sequence : goal.decreases-read_sequence
decreases-read_sequence l = 8 * l.inside + 7

abbrev pub decreases-read_members : goal.decreases-read_members
decreases-read_members l = 8 * l.inside + 6

abbrev pub invariant-read_members-loop-at : goal.invariant-read_members-loop-at
invariant-read_members-loop-at l = from (sequence_in l.inside) l.commands (drop (2 * l.at) l.members) ≡ from (sequence_in l.inside) [] l.members

abbrev pub decreases-read_command : goal.decreases-read_command
decreases-read_command l = 8 * l.inside + 5

abbrev pub decreases-read_try_each : goal.decreases-read_try_each
decreases-read_try_each l = 8 * l.inside + 4

abbrev pub decreases-read_alternatives : goal.decreases-read_alternatives
decreases-read_alternatives l = 8 * l.inside + 3

abbrev pub decreases-read_each : goal.decreases-read_each
decreases-read_each l = 8 * l.inside + 2

abbrev pub invariant-read_each-loop-item : goal.invariant-read_each-loop-item
invariant-read_each-loop-item l = each_from (sequence_in l.inside) l.sequences (drop l.item-index l.items) ≡ each_from (sequence_in l.inside) [] l.items

abbrev pub decreases-read_wrapped : goal.decreases-read_wrapped
decreases-read_wrapped l = 8 * l.inside + 1
