-- What is in range, and what is in range down to fewer levels.
use Rattle.std.proofs.Common.{ℕ, zero, suc, ◌<◌, ◌^◌, List, [], ◌∷◌, length}
use Rattle.std.specs.List.{AllByRecursion}
use Rattle.std.specs.Str.{IsUtf8}
use Rattle.base_types.specs.Bytes.{IsBytes}
use Rattle.cbor_core.specs.declared.item.Item.{Item, out-Item}
use Rattle.cbor_core.specs.declared.item.Pair.{Pair}
use Rattle.cbor_core.specs.declared.item.Item.TheOpen.{Item-F}
use Rattle.cbor_core.specs.declared.item.Item.TheVariants as i
use Rattle.cbor_core.proofs.Public.Parts.{members_widen, pairs_widen}
use Rattle.cbor_core.specs.Spelling.{IsInRangeBy, HasRangesWithin, HasRanges}

module _ (P Q : Item → Type 0) (narrow : (x : Item) → P x → Q x) where
  level : (l : Item-F Item Pair) → IsInRangeBy P l → IsInRangeBy Q l
  level (Item-F.Unsigned n) r = r
  level (Item-F.Negative n) r = r
  level (Item-F.Bytes bytes) r = r
  level (Item-F.Text text) r = r
  level (Item-F.Array xs) r = (members_widen P Q narrow xs r.0, r.1)
  level (Item-F.Map ps) r = (pairs_widen P Q narrow ps r.0, r.1)
  level (Item-F.Tag n x) r = (narrow x r.0, r.1)
  level (Item-F.Truth b) r = tt
  level Item-F.Null r = tt

-- one level fewer
pub fewer : (d : ℕ) (x : Item) → HasRangesWithin (suc d) x → HasRangesWithin d x
fewer zero x r = level (HasRangesWithin 0) (λ _. Unit {0}) (λ _ _. tt) (out-Item x) r
fewer (suc d) x r = level (HasRangesWithin (suc d)) (HasRangesWithin d) (fewer d) (out-Item x) r

-- two levels fewer, as inside a tag and an array
pub two_fewer : (x : Item) → HasRanges x → HasRangesWithin 14 x
two_fewer x r = fewer 14 x (fewer 15 x r)

-- ---- items in range

pub number_ranges : (d n : ℕ) → n < 2 ^ 64 → HasRangesWithin d (i.Unsigned n)
number_ranges zero n lt = rw i.outs-Unsigned lt
number_ranges (suc d) n lt = rw i.outs-Unsigned lt

pub string_ranges : (d : ℕ) (bytes : List ℕ) → IsBytes bytes → length bytes < 2 ^ 64 → HasRangesWithin d (i.Bytes bytes)
string_ranges zero bytes are len = rw i.outs-Bytes (are, len)
string_ranges (suc d) bytes are len = rw i.outs-Bytes (are, len)

pub text_ranges : (d : ℕ) (text : List ℕ) → IsUtf8 text → length text < 2 ^ 64 → HasRangesWithin d (i.Text text)
text_ranges zero text is len = rw i.outs-Text (is, len)
text_ranges (suc d) text is len = rw i.outs-Text (is, len)

pub array_ranges : (d : ℕ) (xs : List Item) → AllByRecursion (HasRangesWithin d) xs → length xs < 2 ^ 64 → HasRangesWithin (suc d) (i.Array xs)
array_ranges d xs all len = rw i.outs-Array (all, len)

pub map_ranges : (d : ℕ) (ps : List Pair) → AllByRecursion (λ p. HasRangesWithin d p.key × HasRangesWithin d p.value) ps → length ps < 2 ^ 64 → HasRangesWithin (suc d) (i.Map ps)
map_ranges d ps all len = rw i.outs-Map (all, len)

-- a string in range is bytes
pub bytes_within : (d : ℕ) (bytes : List ℕ) → HasRangesWithin d (i.Bytes bytes) → IsBytes bytes
bytes_within zero bytes r = let level = rw i.outs-Bytes at r in level.0
bytes_within (suc d) bytes r = let level = rw i.outs-Bytes at r in level.0

pub bytes_in_range : (bytes : List ℕ) → HasRanges (i.Bytes bytes) → IsBytes bytes
bytes_in_range bytes r = bytes_within 16 bytes r
