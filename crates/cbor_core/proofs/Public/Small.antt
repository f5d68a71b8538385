-- How long the encoding of a small item is (RFC 8949, section 3).
use Rattle.std.proofs.Common.{◌≡◌, ℕ, ◌+◌, ◌<◌, ◌≤◌, Bool, List, length, refl, arith, inl, inr}
use Rattle.std.proofs.lemmas.Bool.{cases_lt}
use Rattle.std.proofs.lemmas.List.{length-append}
use Rattle.cbor_heads.specs.Head.{head}
use Rattle.cbor_heads.proofs.Public.Heads.{head_short, head_8}
use Rattle.cbor_core.specs.declared.item.Item.{Item}
use Rattle.cbor_core.specs.declared.item.Pair.{Pair}
use Rattle.cbor_core.specs.declared.item.Item.TheVariants as i
use Rattle.cbor_core.specs.Spelling.{spelling, spellings, pair_spellings}
use Rattle.cbor_core.proofs.Public.Spell.{spelling_Unsigned, spelling_Negative, spelling_Bytes, spelling_Array, spelling_Map, spelling_Truth, spelling_Null}

head_one : (major n : ℕ) → n < 24 → length (head major n) ≡ 1
head_one major n short = rw (head_short major n short) refl

head_two : (major n : ℕ) → n < 256 → length (head major n) ≤ 2
head_two major n less = elim (cases_lt n 24) [
  | inl short ↦ rw (head_short major n short) (omega arith)
  | inr long ↦ rw (head_8 major n long less) (omega arith)
]

pub small_number : (n : ℕ) → n < 24 → length (spelling (i.Unsigned n)) ≡ 1
small_number n short = rw (spelling_Unsigned n) (head_one 0 n short)

pub small_negative : (n : ℕ) → n < 256 → length (spelling (i.Negative n)) ≤ 2
small_negative n less = rw (spelling_Negative n) (head_two 1 n less)

pub small_string : (bytes : List ℕ) → length bytes < 256 → length (spelling (i.Bytes bytes)) ≤ 2 + length bytes
small_string bytes less = rw (spelling_Bytes bytes, length-append (head 2 (length bytes)) bytes) (omega (arith, head_two 2 (length bytes) less))

pub small_array : (xs : List Item) → length xs < 24 → length (spelling (i.Array xs)) ≡ 1 + length (spellings xs)
small_array xs short = rw (spelling_Array xs, length-append (head 4 (length xs)) (spellings xs)) (omega (arith, head_one 4 (length xs) short))

pub small_map : (ps : List Pair) → length ps < 24 → length (spelling (i.Map ps)) ≡ 1 + length (pair_spellings ps)
small_map ps short = rw (spelling_Map ps, length-append (head 5 (length ps)) (pair_spellings ps)) (omega (arith, head_one 5 (length ps) short))

pub truth_size : (b : Bool) → length (spelling (i.Truth b)) ≡ 1
truth_size b = rw (spelling_Truth b) refl

pub null_size : length (spelling i.Null) ≡ 1
null_size = rw spelling_Null refl
