-- Which bytes spell an item: core deterministic encoding (RFC 8949, sections 3 and 4.2.1).
use Rattle.std.specs.Prelude.{ℕ, zero, suc, ◌<◌, Bool, ◌^◌, ◌≡◌, List, [], ◌∷◌, ◌++◌, length, if◌then◌else◌, true, false}
use Rattle.std.specs.List.{flat_map, AllByRecursion}
use Rattle.std.specs.Str.{IsUtf8}
use Rattle.std.specs.Cmp.Lexicographic.{slice_cmp}
use Rattle.std.specs.Ordering.{nat_cmp, is_lt}
use Rattle.base_types.specs.Bytes.{IsBytes}
use Rattle.base_types.specs.declared.limits.TheConstants.{CBOR_DEPTH_LIMIT}
use Rattle.cbor_heads.specs.Head.{head}
use Rattle.cbor_core.specs.declared.item.Item.{Item, out-Item}
use Rattle.cbor_core.specs.declared.item.Pair.{Pair}
use Rattle.cbor_core.specs.declared.item.Item.TheFolds.{fold-Item, fold-Pair}
use Rattle.cbor_core.specs.declared.item.Item.TheOpen.{Item-F, Pair-F}

-- ---- the bytes of an item

-- parts, one behind the other
abbrev pub joined : List (List ℕ) → List ℕ
joined = flat_map (λ x. x)

-- An item's bytes, from those of its parts: a head of its major type (RFC 8949, section 3.1), and what the head announces.
-- False, true and null are the simple values 20, 21 and 22 (section 3.3).
abbrev pub item_step : Item-F (List ℕ) (List ℕ) → List ℕ
item_step (Item-F.Unsigned n) = head 0 n
item_step (Item-F.Negative n) = head 1 n
item_step (Item-F.Bytes bytes) = head 2 (length bytes) ++ bytes
item_step (Item-F.Text text) = head 3 (length text) ++ text
item_step (Item-F.Array members) = head 4 (length members) ++ joined members
item_step (Item-F.Map pairs) = head 5 (length pairs) ++ joined pairs
item_step (Item-F.Tag n content) = head 6 n ++ content
item_step (Item-F.Truth b) = (if b then 245 else 244) ∷ []
item_step Item-F.Null = 246 ∷ []

-- a pair's bytes are its key's and then its value's
abbrev pub pair_step : Pair-F (List ℕ) (List ℕ) → List ℕ
pair_step p = p.key ++ p.value

-- the bytes of an item, and of a pair
unfoldable pub spelling : Item → List ℕ
spelling = fold-Item (List ℕ) (List ℕ) item_step pair_step

-- the bytes of a pair
unfoldable pub pair_spelling : Pair → List ℕ
pair_spelling = fold-Pair (List ℕ) (List ℕ) item_step pair_step

-- the bytes of items and of pairs, one behind the other
abbrev pub spellings : List Item → List ℕ
spellings = flat_map spelling

-- the bytes of pairs, one behind the other
abbrev pub pair_spellings : List Pair → List ℕ
pair_spellings = flat_map pair_spelling

-- ---- which items are proper: a matter of structure alone

-- one stands strictly before the other, byte by byte, and a front before what goes on behind it (RFC 8949, section 4.2.1)
abbrev pub bytes_below : List ℕ → List ℕ → Bool
bytes_below a b = is_lt (slice_cmp nat_cmp a b)

-- Each key's bytes are strictly above those of the key before, and the first key's above `last`.
-- No bytes at all are below the bytes of every key, so `KeysAscend []` says nothing of the first key.
abbrev pub KeysAscend : List ℕ → List Pair → Type 0
KeysAscend last [] = Unit {0}
KeysAscend last (p ∷ ps) = (bytes_below last (spelling p.key) ≡ true) × KeysAscend (spelling p.key) ps

-- A level whose parts meet P; room says whether a container may stand here.
abbrev pub IsProperBy : Bool → (Item → Type 0) → Item-F Item Pair → Type 0
IsProperBy room P (Item-F.Array members) = (room ≡ true) × AllByRecursion P members
IsProperBy room P (Item-F.Map pairs) = (room ≡ true) × AllByRecursion (λ p. P p.key × P p.value) pairs × KeysAscend [] pairs
IsProperBy room P (Item-F.Tag n content) = (room ≡ true) × P content
IsProperBy room P _ = Unit {0}

-- at most so many containers stand inside one another, and each map's keys ascend
abbrev pub IsProperWithin : ℕ → Item → Type 0
IsProperWithin zero x = IsProperBy false (λ _. ⊥) (out-Item x)
IsProperWithin (suc depth) x = IsProperBy true (IsProperWithin depth) (out-Item x)

-- a proper item: at most 16 containers stand inside one another
abbrev pub IsProper : Item → Type 0
IsProper x = IsProperWithin CBOR_DEPTH_LIMIT x

-- ---- ranges: what each item of a running program has

-- A level whose parts meet P: numbers and lengths have 64 bits, bytes have 8, a text is UTF-8.
abbrev pub IsInRangeBy : (Item → Type 0) → Item-F Item Pair → Type 0
IsInRangeBy P (Item-F.Unsigned n) = n < 2 ^ 64
IsInRangeBy P (Item-F.Negative n) = n < 2 ^ 64
IsInRangeBy P (Item-F.Bytes bytes) = IsBytes bytes × (length bytes < 2 ^ 64)
IsInRangeBy P (Item-F.Text text) = IsUtf8 text × (length text < 2 ^ 64)
IsInRangeBy P (Item-F.Array members) = AllByRecursion P members × (length members < 2 ^ 64)
IsInRangeBy P (Item-F.Map pairs) = AllByRecursion (λ p. P p.key × P p.value) pairs × (length pairs < 2 ^ 64)
IsInRangeBy P (Item-F.Tag n content) = P content × (n < 2 ^ 64)
IsInRangeBy P _ = Unit {0}

-- the same of each level down to so many containers
abbrev pub HasRangesWithin : ℕ → Item → Type 0
HasRangesWithin zero x = IsInRangeBy (λ _. Unit {0}) (out-Item x)
HasRangesWithin (suc depth) x = IsInRangeBy (HasRangesWithin depth) (out-Item x)

-- the ranges of all levels
abbrev pub HasRanges : Item → Type 0
HasRanges x = HasRangesWithin CBOR_DEPTH_LIMIT x

-- ---- what bytes spell

-- an item that some bytes spell, where so many containers may still stand inside one another
abbrev pub IsSpellable : ℕ → Item → Type 0
IsSpellable depth x = IsProperWithin depth x × HasRangesWithin depth x

-- the bytes spell the item
pub record Spells (x : Item) (bytes : List ℕ) : Type 0 where
  pub proper : IsProper x
  pub ranges : HasRanges x
  pub spelled : bytes ≡ spelling x
