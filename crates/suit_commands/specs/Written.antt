-- The item that a sequence is written as: of the items that bytes spell, the only one that is the sequence.
use Rattle.std.specs.Prelude.{ℕ, zero, suc, Bool, true, false, List, [], ◌∷◌, ◌++◌, map}
use Rattle.cbor_core.specs.declared.item.Item.{Item}
use Rattle.cbor_core.specs.declared.item.Item.TheVariants as i
use Rattle.item_codec.specs.Wrapped.{wrap}
use Rattle.suit_commands.specs.declared.command.Command.{Command, out-Command}
use Rattle.suit_commands.specs.declared.command.Command.TheOpen.{Command-F}
use Rattle.suit_commands.specs.Parameters.{parameters_item}
use Rattle.suit_commands.specs.Sequences.{Sequence}

-- the number of a command, by its layer
abbrev pub number_by : Command-F Command → ℕ
number_by (Command-F.Vendor n) = 1
number_by (Command-F.Class n) = 2
number_by (Command-F.ImageMatch n) = 3
number_by (Command-F.Device n) = 24
number_by (Command-F.Abort n) = 14
number_by (Command-F.Write n) = 18
number_by (Command-F.Fetch n) = 21
number_by (Command-F.Copy n) = 22
number_by (Command-F.SetIndex n) = 12
number_by (Command-F.TryEach sequences null_last) = 15
number_by (Command-F.Override v) = 20
number_by (Command-F.RunSequence s) = 32

-- the number of a command
abbrev pub number_of : Command → ℕ
number_of command = number_by (out-Command command)

-- null behind the others, where it stands there
abbrev pub null_items : Bool → List Item
null_items true = i.Null ∷ []
null_items false = []

-- alternatives, each sequence written by `inner`, and null behind them where it stands there
abbrev pub alternative_items : (Sequence → Item) → List Sequence → Bool → List Item
alternative_items inner sequences null_last = map inner sequences ++ null_items null_last

-- the argument of a command, by its layer; sequences inside are written by `inner`
abbrev pub argument_by : (Sequence → Item) → Command-F Command → Item
argument_by inner (Command-F.Vendor n) = i.Unsigned n
argument_by inner (Command-F.Class n) = i.Unsigned n
argument_by inner (Command-F.ImageMatch n) = i.Unsigned n
argument_by inner (Command-F.Device n) = i.Unsigned n
argument_by inner (Command-F.Abort n) = i.Unsigned n
argument_by inner (Command-F.Write n) = i.Unsigned n
argument_by inner (Command-F.Fetch n) = i.Unsigned n
argument_by inner (Command-F.Copy n) = i.Unsigned n
argument_by inner (Command-F.SetIndex n) = i.Unsigned n
argument_by inner (Command-F.TryEach sequences null_last) = i.Array (alternative_items inner sequences null_last)
argument_by inner (Command-F.Override v) = parameters_item v
argument_by inner (Command-F.RunSequence s) = inner s

-- each command's number and argument, in their order
abbrev pub members : (Sequence → Item) → Sequence → List Item
members inner [] = []
members inner (command ∷ commands) = i.Unsigned (number_of command) ∷ argument_by inner (out-Command command) ∷ members inner commands

-- The array of these, where so many levels may stand: each sequence inside is a byte string that wraps its own. None is written where no level is left.
unfoldable pub written_in : ℕ → Sequence → Item
written_in zero s = i.Null
written_in (suc levels) s = i.Array (members (wrap (written_in levels)) s)
