use Rattle.std.proofs.Common.{◌≡◌, ◌+◌, ◌*◌, ◌++◌, map, take, drop}
use Rattle.std.specs.List.{AllByRecursion}
use Rattle.item_codec.specs.Wrapped.{wrap}
use Rattle.suit_commands.specs.Written.{members, written_in}
use Rattle.suit_commands.specs.Proper.{AreProperCommands, IsProperIn}
use Rattle.suit_commands.proofs.writer.+writer.Given as goal

abbrev pub decreases-write_bytes : goal.decreases-write_bytes
decreases-write_bytes l = 8 * l.levels + 1

abbrev pub decreases-write_sequence : goal.decreases-write_sequence
decreases-write_sequence l = 8 * l.levels

abbrev pub decreases-write_members : goal.decreases-write_members
decreases-write_members l = 8 * l.inside + 5

abbrev pub invariant-write_members-loop-command : goal.invariant-write_members-loop-command
invariant-write_members-loop-command l = record {
  written : l.items ++ members (wrap (written_in l.inside)) (drop l.command-index l.commands) ≡ members (wrap (written_in l.inside)) l.commands;
  proper : AreProperCommands (IsProperIn l.inside) (drop l.command-index l.commands);
}

abbrev pub decreases-write_argument : goal.decreases-write_argument
decreases-write_argument l = 8 * l.inside + 4

abbrev pub decreases-write_wrapped : goal.decreases-write_wrapped
decreases-write_wrapped l = 8 * l.inside + 2

abbrev pub decreases-write_try_each : goal.decreases-write_try_each
decreases-write_try_each l = 8 * l.inside + 3

abbrev pub invariant-write_try_each-loop-sequence : goal.invariant-write_try_each-loop-sequence
invariant-write_try_each-loop-sequence l = record {
  written : l.items ≡ map (wrap (written_in l.inside)) (take l.sequence-index l.alternatives);
  proper : AllByRecursion (IsProperIn l.inside) (drop l.sequence-index l.alternatives);
}
