-- Which sequences may be written: those whose commands keep their rules, and whose items bytes spell, at each level.
use Rattle.std.specs.Prelude.{ℕ, zero, suc, Bool, true, false, List, [], ◌∷◌}
use Rattle.std.specs.List.{AllByRecursion}
use Rattle.cbor_fields.specs.Written.{IsSpelled}
use Rattle.suit_commands.specs.declared.command.Command.{Command, out-Command}
use Rattle.suit_commands.specs.declared.command.Command.TheOpen.{Command-F}
use Rattle.suit_commands.specs.Parameters.{AreProper}
use Rattle.suit_commands.specs.Sequences.{Sequence}
use Rattle.suit_commands.specs.Written.{written_in}

-- there is an alternative, or null stands in place of one
abbrev pub HasAlternative : List Sequence → Bool → Type 0
HasAlternative [] false = ⊥
HasAlternative [] true = Unit {0}
HasAlternative (s ∷ ss) null_last = Unit {0}

-- a command keeps its rules, by its layer, and the sequences in it meet P
abbrev pub IsProperCommandBy : (Sequence → Type 0) → Command-F Command → Type 0
IsProperCommandBy P (Command-F.TryEach sequences null_last) = HasAlternative sequences null_last × AllByRecursion P sequences
IsProperCommandBy P (Command-F.Override v) = AreProper v
IsProperCommandBy P (Command-F.RunSequence s) = P s
IsProperCommandBy P _ = Unit {0}

-- the same of each command
abbrev pub AreProperCommands : (Sequence → Type 0) → Sequence → Type 0
AreProperCommands P commands = AllByRecursion (λ command. IsProperCommandBy P (out-Command command)) commands

-- At most so many levels of sequences stand inside one another. At each the commands keep their rules, and bytes spell the item that is
-- written (RFC 8949, section 4.2.1): its bytes are bytes, and its texts are texts.
unfoldable pub IsProperIn : ℕ → Sequence → Type 0
IsProperIn zero s = ⊥
IsProperIn (suc levels) s = AreProperCommands (IsProperIn levels) s × IsSpelled (written_in (suc levels) s)

-- a sequence that may be written
abbrev pub IsProperSequence : Sequence → Type 0
IsProperSequence s = IsProperIn 9 s
