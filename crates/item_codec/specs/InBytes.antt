-- The item that bytes spell, or the first fault by which they spell none.
use Rattle.std.specs.Prelude.{ℕ, List, [], ◌∷◌, Result, Ok, Err}
use Rattle.base_types.specs.declared.limits.TheConstants.{CBOR_DEPTH_LIMIT}
use Rattle.cbor_core.specs.declared.item.Item.{Item}
use Rattle.cbor_heads.specs.declared.fault.Fault.{Fault}
use Rattle.cbor_heads.specs.declared.fault.Why.TheVariants as why
use Rattle.cbor_heads.specs.Place.{start}
use Rattle.cbor_heads.specs.Reading.{Outcome}
use Rattle.cbor_core.specs.Reading.{item_at}
use Rattle.item_codec.specs.Answers.{and_then}

-- the item, where nothing is left behind it, and else the fault of the first byte that is
abbrev pub ended : {E : Type 0} → (Fault → E) → Item → ℕ → List ℕ → Result Item E
ended cbor x at [] = Ok x
ended cbor x at (byte ∷ bytes) = Err (cbor (record { at = at; why = why.Extra }))

-- the item that was read to the end, or the first fault
abbrev pub read_to_end : {E : Type 0} → (Fault → E) → Outcome Fault Item → Result Item E
read_to_end cbor (Ok x) = ended cbor x.0 x.1.at x.1.rest
read_to_end cbor (Err fault) = Err (cbor fault)

-- The item that the bytes spell, or what is said of the first fault of the whole bytes (RFC 8949, section 4.2.1).
unfoldable pub item_or_fault : {E : Type 0} → (Fault → E) → List ℕ → Result Item E
item_or_fault cbor bytes = read_to_end cbor (item_at CBOR_DEPTH_LIMIT (start bytes))

-- the value of the item that the bytes spell
abbrev pub in_bytes : {V E : Type 0} → (Fault → E) → (Item → Result V E) → List ℕ → Result V E
in_bytes cbor view bytes = and_then view (item_or_fault cbor bytes)
