-- How many bytes spell an item at most, from those of its parts.
use Rattle.std.proofs.Common.{ℕ, ◌+◌, ◌*◌, ◌<◌, ◌≤◌, List, [], ◌∷◌, ◌++◌, length, Option, Some, None, inl, inr, arith}
use Rattle.std.specs.Prelude.{IfSome}
use Rattle.std.proofs.lemmas.Bool.{cases_lt}
use Rattle.cbor_heads.specs.Head.{head}
use Rattle.cbor_heads.proofs.Public.Heads.{head_short, head_8, head_16, head_32, head_64}
use Rattle.cbor_core.specs.declared.item.Item.{Item}
use Rattle.cbor_core.specs.declared.item.Item.TheVariants as i
use Rattle.cbor_core.specs.declared.item.Pair.{Pair}
use Rattle.cbor_core.specs.Spelling.{spelling, spellings, pair_spelling, pair_spellings}
use Rattle.cbor_core.proofs.Public.Spell.{spelling_Unsigned, spelling_Bytes, spelling_Text, spelling_Array, spelling_Map, pair_spelling_out}
use Rattle.cbor_fields.specs.Written.{labelled}
use Rattle.item_codec.specs.Ordered.{row}
use Rattle.agent_core.proofs.Short.{IsShort, none, both, wider, one, bytes_of_number}

-- a head is nine bytes at most (RFC 8949, section 3)
pub begun : (major n : ℕ) → major < 8 → IsShort 9 (head major n)
begun major n low = elim (cases_lt n 24) [
  | inl short ↦ rw (head_short major n short) (wider 9 (omega arith) (one (32 * major + n) (omega arith) none))
  | inr long ↦ elim (cases_lt n 256) [
    | inl one_more ↦ rw (head_8 major n long one_more) (wider 9 (omega arith) (one (32 * major + 24) (omega arith) (bytes_of_number 1 n)))
    | inr long1 ↦ elim (cases_lt n 65536) [
      | inl two ↦ rw (head_16 major n long1 two) (wider 9 (omega arith) (one (32 * major + 25) (omega arith) (bytes_of_number 2 n)))
      | inr long2 ↦ elim (cases_lt n 4294967296) [
        | inl four ↦ rw (head_32 major n long2 four) (wider 9 (omega arith) (one (32 * major + 26) (omega arith) (bytes_of_number 4 n)))
        | inr long4 ↦ rw (head_64 major n long4) (one (32 * major + 27) (omega arith) (bytes_of_number 8 n))
      ]
    ]
  ]
]

-- the bytes of an item are so many at most
pub record Takes (most : ℕ) (x : Item) : Type 0 where
  pub short : IsShort most (spelling x)

pub number : (n : ℕ) → Takes 9 (i.Unsigned n)
number n = record { short = rw (spelling_Unsigned n) (begun 0 n (omega arith)) }

pub string : {m : ℕ} {bytes : List ℕ} → IsShort m bytes → Takes (9 + m) (i.Bytes bytes)
string {m} {bytes} short = record { short = rw (spelling_Bytes bytes) (both (begun 2 (length bytes) (omega arith)) short) }

pub text : {m : ℕ} {bytes : List ℕ} → IsShort m bytes → Takes (9 + m) (i.Text bytes)
text {m} {bytes} short = record { short = rw (spelling_Text bytes) (both (begun 3 (length bytes) (omega arith)) short) }

-- ---- parts, one behind the other

-- the bytes of these items are so many at most
pub record TakeAll (most : ℕ) (xs : List Item) : Type 0 where
  pub short : IsShort most (spellings xs)

pub no_items : TakeAll 0 []
no_items = record { short = none }

pub item : {m n : ℕ} {x : Item} {xs : List Item} → Takes m x → TakeAll n xs → TakeAll (m + n) (x ∷ xs)
item {m} {n} {x} {xs} first others = let whole : IsShort (m + n) (spelling x ++ spellings xs) = both first.short others.short in record { short = whole }

pub array : {m : ℕ} {xs : List Item} → TakeAll m xs → Takes (9 + m) (i.Array xs)
array {m} {xs} all = record { short = rw (spelling_Array xs) (both (begun 4 (length xs) (omega arith)) all.short) }

-- the bytes of these pairs are so many at most
pub record TakePairs (most : ℕ) (ps : List Pair) : Type 0 where
  pub short : IsShort most (pair_spellings ps)

pub no_pairs : TakePairs 0 []
no_pairs = record { short = none }

pub pair : {m n : ℕ} {x : Item} {ps : List Pair} (label : ℕ) → Takes m x → TakePairs n ps → TakePairs (9 + m + n) (labelled label x ∷ ps)
pair {m} {n} {x} {ps} label first others =
    let key : IsShort 9 (spelling (i.Unsigned label)) = (number label).short in
    let out : IsShort (9 + m) (pair_spelling (labelled label x)) = rw (pair_spelling_out (labelled label x)) (both key first.short) in
    let whole : IsShort (9 + m + n) (pair_spelling (labelled label x) ++ pair_spellings ps) = both out others.short in
    record { short = whole }

-- a pair that may be missing
pub perhaps : {V : Type 0} {n : ℕ} {ps : List Pair} (m : ℕ) (written : V → Item) (label : ℕ) (o : Option V) → IfSome o (λ v. Takes m (written v)) → TakePairs n ps
    → TakePairs (9 + m + n) (row written label o ps)
perhaps {V} {n} {ps} m written label None all others = record { short = wider (9 + m + n) (omega arith) others.short }
perhaps {V} {n} {ps} m written label (Some v) all others = pair label all others

pub map : {m : ℕ} {ps : List Pair} → TakePairs m ps → Takes (9 + m) (i.Map ps)
map {m} {ps} all = record { short = rw (spelling_Map ps) (both (begun 5 (length ps) (omega arith)) all.short) }

-- more may be there
pub at_most : {m : ℕ} {x : Item} (n : ℕ) → m ≤ n → Takes m x → Takes n x
at_most n less takes = record { short = wider n less takes.short }
