-- Parts of items, one behind the other: each row of a definition reads one, and hands its value to the rows behind it.
use Rattle.std.specs.Prelude.{ℕ, ◌≤◌, ◌&&◌, nat_le, List, length, Option, Some, None, Result, Ok, Err, if◌then◌else◌}
use Rattle.base_types.specs.Bytes.{IsBytes}
use Rattle.cbor_core.specs.declared.item.Item.{Item}
use Rattle.cbor_core.specs.declared.item.Pair.{Pair}
use Rattle.cbor_core.specs.Views.{bytes_of, array_of, map_of}
use Rattle.item_codec.specs.Answers.{and_then, mapped, or_fault}

-- a form of one fault: the value, and this refusal of every other item
abbrev pub shaped : {V E : Type 0} → E → (Item → Option V) → Item → Result V E
shaped fault view x = or_fault fault (view x)

-- the bytes, where there are so many
abbrev pub within : {E : Type 0} → ℕ → ℕ → E → List ℕ → Result (List ℕ) E
within least most size bytes = if nat_le least (length bytes) && nat_le (length bytes) most then Ok bytes else Err size

-- a byte string of so many bytes: another item has the one refusal, and another size the other
abbrev pub sized : {E : Type 0} → ℕ → ℕ → E → E → Item → Result (List ℕ) E
sized least most shape size x = and_then (within least most size) (or_fault shape (bytes_of x))

-- these are bytes, and there are so many
abbrev pub IsWithin : ℕ → ℕ → List ℕ → Type 0
IsWithin least most bytes = IsBytes bytes × (least ≤ length bytes) × (length bytes ≤ most)

-- a part, and then the others
abbrev pub part : {V S E : Type 0} → (Item → Result V E) → Item → (V → Result S E) → Result S E
part view x others = and_then others (view x)

-- the value of an item, where one is there
abbrev pub optional_at : {V E : Type 0} → (Item → Result V E) → Option Item → Result (Option V) E
optional_at view None = Ok None
optional_at view (Some x) = mapped (λ v. Some v) (view x)

-- the value of an item, which must be there
abbrev pub needed_at : {V E : Type 0} → (Item → Result V E) → E → Option Item → Result V E
needed_at view missing None = Err missing
needed_at view missing (Some x) = view x

-- an item that stands under a label or nowhere, and then the others
abbrev pub known : {V S E : Type 0} → (Item → Result V E) → Option Item → (Option V → Result S E) → Result S E
known view found others = and_then others (optional_at view found)

-- an item that must stand under a label, and then the others
abbrev pub required : {V S E : Type 0} → (Item → Result V E) → E → Option Item → (V → Result S E) → Result S E
required view missing found others = and_then others (needed_at view missing found)

-- a map whose pairs are read so
abbrev pub in_map : {S E : Type 0} → E → (List Pair → Result S E) → Item → Result S E
in_map fault pairs x = and_then pairs (or_fault fault (map_of x))

-- an array whose members are read so
abbrev pub in_array : {S E : Type 0} → E → (List Item → Result S E) → Item → Result S E
in_array fault members x = and_then members (or_fault fault (array_of x))
