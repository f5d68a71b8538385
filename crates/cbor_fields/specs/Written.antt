-- The item that a value is written as, and values put into a map under their labels.
use Rattle.std.specs.Prelude.{ℕ, ◌≡◌, Bool, false, nat_lt, List, [], ◌∷◌, Option, Some, None, Ok, Err}
use Rattle.std.specs.List.{insert, prefix_len}
use Rattle.cbor_core.specs.declared.item.Item.{Item, out-Item}
use Rattle.cbor_core.specs.declared.item.Item.TheOpen.{Item-F}
use Rattle.cbor_core.specs.declared.item.Item.TheVariants as i
use Rattle.cbor_core.specs.declared.item.Pair.{Pair}
use Rattle.cbor_heads.specs.declared.fault.Fault.{Fault}
use Rattle.cbor_heads.specs.Place.{start}
use Rattle.cbor_heads.specs.Reading.{Outcome}
use Rattle.cbor_core.specs.Reading.{item_at}
use Rattle.cbor_core.specs.Spelling.{spelling, Spells}
use Rattle.base_types.specs.declared.limits.TheConstants.{CBOR_DEPTH_LIMIT}

-- some bytes spell the item
abbrev pub IsSpelled : Item → Type 0
IsSpelled x = Spells x (spelling x)

-- Of the items that bytes spell, one at most stands for a value: the one that it is written as.
abbrev pub Determines : {V : Type 0} → (Item → Option V) → (V → Item) → Type 0
Determines {V} view item = (x : Item) (value : V) → IsSpelled x → view x ≡ Some value → x ≡ item value

-- ---- identifiers

-- the item, where nothing stands behind it
abbrev pub whole : Item → List ℕ → Item
whole x [] = x
whole x (byte ∷ bytes) = i.Null

-- the item that was read, and null where a fault was
abbrev pub decoded_by : Outcome Fault Item → Item
decoded_by (Ok x) = whole x.0 x.1.rest
decoded_by (Err f) = i.Null

-- the item that the bytes spell, and null where they spell none
unfoldable pub decoded : List ℕ → Item
decoded bytes = decoded_by (item_at CBOR_DEPTH_LIMIT (start bytes))

-- ---- fields of a map

-- a value under a label
abbrev pub labelled : ℕ → Item → Pair
labelled label x = record { key = i.Unsigned label; value = x }

-- the key is a number below the label, by its layer
abbrev pub is_below_by : ℕ → Item-F Item Pair → Bool
is_below_by label (Item-F.Unsigned n) = nat_lt n label
is_below_by label _ = false

-- The key is a number below the label. No other key stands before a label (RFC 8949, section 4.2.1).
abbrev pub is_below : ℕ → Pair → Bool
is_below label p = is_below_by label (out-Item p.key)

-- the pairs with one more under a label, behind the first pairs whose keys are numbers below it
unfoldable pub put : ℕ → Item → List Pair → List Pair
put label x pairs = insert pairs (prefix_len (is_below label) pairs) (labelled label x)

-- the pairs with one more, where there is a value
unfoldable pub put_if : {V : Type 0} → (V → Item) → ℕ → Option V → List Pair → List Pair
put_if item label None pairs = pairs
put_if item label (Some value) pairs = put label (item value) pairs
