-- Bytes that spell several items, or pairs, one behind the other.
use Rattle.std.specs.Prelude.{ℕ, ◌≡◌, List, [], ◌++◌, Option, Some, None}
use Rattle.std.specs.List.{AllByRecursion}
use Rattle.cbor_core.specs.declared.item.Item.{Item}
use Rattle.cbor_core.specs.declared.item.Pair.{Pair}
use Rattle.cbor_core.specs.Spelling.{IsProper, HasRanges, Spells, KeysAscend, spelling, spellings, pair_spelling, pair_spellings}

-- some bytes spell the item
abbrev pub HasSpelling : Item → Type 0
HasSpelling x = IsProper x × HasRanges x

-- some bytes spell each key and each value
abbrev pub HaveSpellings : List Pair → Type 0
HaveSpellings ps = AllByRecursion (λ p. HasSpelling p.key × HasSpelling p.value) ps

-- the bytes spell these items, one behind the other
abbrev pub AreSpelled : List Item → List ℕ → Type 0
AreSpelled xs bytes = AllByRecursion HasSpelling xs × (bytes ≡ spellings xs)

-- the bytes spell the pairs of a map, one behind the other; the keys ascend
abbrev pub PairsSpelled : List Pair → List ℕ → Type 0
PairsSpelled ps bytes = HaveSpellings ps × KeysAscend [] ps × (bytes ≡ pair_spellings ps)

-- a front of the bytes spells the item, and more bytes stand behind
abbrev pub IsInFront : Item → List ℕ → List ℕ → Type 0
IsInFront x bytes more = HasSpelling x × (bytes ≡ spelling x ++ more)

-- a front of the bytes spells the pair, and more bytes stand behind
abbrev pub PairInFront : Pair → List ℕ → List ℕ → Type 0
PairInFront p bytes more = HasSpelling p.key × HasSpelling p.value × (bytes ≡ pair_spelling p ++ more)

-- a front of the bytes spells the pairs of a map, one behind the other, and more bytes stand behind
abbrev pub PairsInFront : List Pair → List ℕ → List ℕ → Type 0
PairsInFront ps bytes more = HaveSpellings ps × KeysAscend [] ps × (bytes ≡ pair_spellings ps ++ more)

-- The bytes that were found spell the item that is there, and none were found where none is there.
abbrev pub IsThere : {T : Type 0} → (T → List ℕ) → Option Item → Option T → Type 0
IsThere now None None = Unit {0}
IsThere now None (Some s) = ⊥
IsThere now (Some x) None = ⊥
IsThere now (Some x) (Some s) = Spells x (now s)
