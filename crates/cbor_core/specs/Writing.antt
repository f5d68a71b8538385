-- What the checked writer answers.
use Rattle.std.specs.Prelude.{◌≡◌, Bool, true, false, List, ℕ, ◌++◌, Result, Ok, Err}
use Rattle.std.specs.List.{AllByRecursion}
use Rattle.base_types.specs.declared.memory.NoMemory.{NoMemory}
use Rattle.cbor_core.specs.declared.item.Item.{Item}
use Rattle.cbor_core.specs.declared.item.Pair.{Pair}
use Rattle.cbor_core.specs.Spelling.{KeysAscend}

-- True: Q holds, and the text stands behind what was written before. False: P does not hold. Or memory ran out.
abbrev pub Writes : Result Bool NoMemory → Type 0 → Type 0 → List ℕ → List ℕ → List ℕ → Type 0
Writes (Ok true) Q P old text new = Q × (new ≡ old ++ text)
Writes (Ok false) Q P old text new = ¬ P
Writes (Err e) Q P old text new = Unit {0}

-- each key and each value meets P, and the keys ascend above `last`
abbrev pub PairsAre : (Item → Type 0) → List ℕ → List Pair → Type 0
PairsAre P last pairs = AllByRecursion (λ p. P p.key × P p.value) pairs × KeysAscend last pairs
