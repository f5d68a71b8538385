-- An item in a byte string that holds its encoding.
use Rattle.std.specs.Prelude.{ℕ, List, [], ◌∷◌, Option, Some, None, Result, Ok, Err}
use Rattle.base_types.specs.declared.limits.TheConstants.{CBOR_DEPTH_LIMIT}
use Rattle.cbor_core.specs.declared.item.Item.{Item}
use Rattle.cbor_core.specs.declared.item.Item.TheVariants as i
use Rattle.cbor_heads.specs.Place.{start}
use Rattle.cbor_heads.specs.declared.fault.Fault.{Fault}
use Rattle.cbor_core.specs.Reading.{item_at}
use Rattle.cbor_heads.specs.Reading.{Outcome}
use Rattle.cbor_core.specs.Spelling.{spelling}
use Rattle.cbor_core.specs.Views.{bytes_of}
use Rattle.cbor_fields.specs.Written.{IsSpelled}
use Rattle.item_codec.specs.Answers.{and_then, or_fault}

-- an item behind which nothing is left
abbrev pub alone : Item → List ℕ → Option Item
alone x [] = Some x
alone x (byte ∷ bytes) = None

-- an item that was read to the end
abbrev pub read_whole : Outcome Fault Item → Option Item
read_whole (Ok x) = alone x.0 x.1.rest
read_whole (Err fault) = None

-- The item that the bytes spell, where they spell one (RFC 8949, section 4.2.1).
unfoldable pub item_in : List ℕ → Option Item
item_in bytes = read_whole (item_at CBOR_DEPTH_LIMIT (start bytes))

-- the item that a byte string's bytes spell, and this refusal of every other item
abbrev pub unwrapped : {E : Type 0} → E → Item → Result Item E
unwrapped fault x = and_then (λ bytes. or_fault fault (item_in bytes)) (or_fault fault (bytes_of x))

-- a wrapped item that is read so
abbrev pub wrapped : {V E : Type 0} → E → (Item → Result V E) → Item → Result V E
wrapped fault view x = and_then view (unwrapped fault x)

-- the byte string of an item's encoding
abbrev pub wrap : {V : Type 0} → (V → Item) → V → Item
wrap item v = i.Bytes (spelling (item v))

-- the value has the property, and bytes spell the item that is wrapped
abbrev pub IsWrappable : {V : Type 0} → (V → Item) → (V → Type 0) → V → Type 0
IsWrappable item P v = P v × IsSpelled (item v)
