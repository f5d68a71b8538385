-- Which sequence bytes are, or their first refusal (draft-ietf-suit-manifest, "SUIT_Command_Sequence").
use Rattle.std.specs.Prelude.{ℕ, zero, suc, ◌≡◌, ◌==◌, Bool, true, false, List, [], ◌∷◌, Option, Some, None, option_map, Result, Ok, Err, if◌then◌else◌}
use Rattle.cbor_core.specs.declared.item.Item.{Item, out-Item}
use Rattle.cbor_core.specs.declared.item.Item.TheOpen.{Item-F}
use Rattle.cbor_core.specs.declared.item.Pair.{Pair}
use Rattle.cbor_core.specs.Views.{unsigned_of, bytes_of, is_null}
use Rattle.item_codec.specs.Answers.{and_then, mapped, or_fault}
use Rattle.item_codec.specs.Fields.{shaped, part, in_array}
use Rattle.suit_commands.specs.declared.command.Command.{Command}
use Rattle.suit_commands.specs.declared.command.Command.TheVariants as c
use Rattle.suit_commands.specs.declared.fault.SequenceFault.{SequenceFault}
use Rattle.suit_commands.specs.declared.fault.SequenceFault.TheVariants as faults
use Rattle.suit_commands.specs.Parameters.{parameters_of}
use Rattle.item_codec.specs.InBytes.{in_bytes}

-- a sequence, its commands in order
abbrev pub Sequence : Type 0
Sequence = List Command

-- how the sequence that a byte string wraps is read
abbrev pub Inner : Type 0
Inner = List ℕ → Result Sequence SequenceFault

-- ---- sequences in byte strings

-- the sequence that a byte string wraps
abbrev pub wrapped_sequence : Inner → Item → Result Sequence SequenceFault
wrapped_sequence inner x = and_then inner (or_fault faults.Shape (bytes_of x))

-- the last alternative: null, or a wrapped sequence
abbrev pub last_alternative : Inner → Item → Result (List Sequence × Bool) SequenceFault
last_alternative inner x = if is_null (out-Item x) then Ok ([], true) else mapped (λ s. (s ∷ [], false)) (wrapped_sequence inner x)

-- one or more alternatives, and whether the last is null: each a wrapped sequence, but for the last
abbrev pub alternatives : Inner → List Item → Result (List Sequence × Bool) SequenceFault
alternatives inner [] = Err faults.Shape
alternatives inner (x ∷ []) = last_alternative inner x
alternatives inner (x ∷ y ∷ xs) = and_then (λ s. mapped (λ t. (s ∷ t.0, t.1)) (alternatives inner (y ∷ xs))) (wrapped_sequence inner x)

-- the command of such alternatives
abbrev pub try_in : Inner → List Item → Result Command SequenceFault
try_in inner xs = mapped (λ t. c.TryEach t.0 t.1) (alternatives inner xs)

-- an array of alternatives
abbrev pub try_each : Inner → Item → Result Command SequenceFault
try_each inner x = mapped (λ t. c.TryEach t.0 t.1) (in_array faults.Shape (alternatives inner) x)

-- ---- commands

-- a command with a number that is kept
abbrev pub kept : (ℕ → Command) → Item → Result Command SequenceFault
kept make x = mapped make (shaped faults.Shape unsigned_of x)

-- the commands whose argument is a number that is kept; a number that is no command's is refused before the argument is looked at
abbrev pub kept_of : ℕ → Item → Result Command SequenceFault
kept_of number x =
    if number == 1 then kept (λ n. c.Vendor n) x
    else (if number == 2 then kept (λ n. c.Class n) x
    else (if number == 3 then kept (λ n. c.ImageMatch n) x
    else (if number == 24 then kept (λ n. c.Device n) x
    else (if number == 14 then kept (λ n. c.Abort n) x
    else (if number == 18 then kept (λ n. c.Write n) x
    else (if number == 21 then kept (λ n. c.Fetch n) x
    else (if number == 22 then kept (λ n. c.Copy n) x
    else (if number == 12 then kept (λ n. c.SetIndex n) x
    else Err (faults.Command number)))))))))

-- the command of a number with this argument
abbrev pub command_of : Inner → ℕ → Item → Result Command SequenceFault
command_of inner number x =
    if number == 15 then try_each inner x
    else (if number == 20 then mapped (λ v. c.Override v) (parameters_of x)
    else (if number == 32 then mapped (λ s. c.RunSequence s) (wrapped_sequence inner x)
    else kept_of number x))

-- the number of a command, and then its argument
abbrev pub command_at : Inner → Item → Item → Result Command SequenceFault
command_at inner n x = part (shaped faults.Shape unsigned_of) n (λ number. command_of inner number x)

-- ---- sequences

-- the items by two, and none where their count is odd
abbrev pub paired : List Item → Option (List (Item × Item))
paired [] = Some []
paired (x ∷ []) = None
paired (x ∷ y ∷ xs) = option_map (λ ps. (x, y) ∷ ps) (paired xs)

-- the commands of numbers with arguments, in their order, or the first refusal
abbrev pub commands : Inner → List (Item × Item) → Result Sequence SequenceFault
commands inner [] = Ok []
commands inner (p ∷ ps) = and_then (λ command. mapped (λ more. command ∷ more) (commands inner ps)) (command_at inner p.0 p.1)

-- the sequence of an array's members; an odd count is refused before any of them is looked at
abbrev pub members_in : Inner → List Item → Result Sequence SequenceFault
members_in inner xs = and_then (commands inner) (or_fault faults.Shape (paired xs))

-- the sequence of an item, which is an array
abbrev pub sequence_by : Inner → Item → Result Sequence SequenceFault
sequence_by inner x = in_array faults.Shape (members_in inner) x

-- The sequence that bytes are, where so many levels of sequences may stand, itself the first.
unfoldable pub sequence_in : ℕ → Inner
sequence_in zero bytes = Err faults.Nesting
sequence_in (suc levels) bytes = in_bytes (λ f. faults.Cbor f) (sequence_by (sequence_in levels)) bytes

-- the bytes are the sequence
abbrev pub SequenceIs : Sequence → List ℕ → Type 0
SequenceIs sequence bytes = sequence_in 9 bytes ≡ Ok sequence

-- the bytes have this refusal
abbrev pub RefusedAs : List ℕ → SequenceFault → Type 0
RefusedAs bytes fault = sequence_in 9 bytes ≡ Err fault

-- ---- as they are read

-- the sequences that byte strings wrap
abbrev pub each_wrapped : Inner → List Item → Result (List Sequence) SequenceFault
each_wrapped inner [] = Ok []
each_wrapped inner (x ∷ xs) = and_then (λ s. mapped (λ more. s ∷ more) (each_wrapped inner xs)) (wrapped_sequence inner x)
