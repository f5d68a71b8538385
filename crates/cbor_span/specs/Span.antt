-- Bytes that spell some item, and fronts of bytes that do.
use Rattle.std.specs.Prelude.{ℕ, List}
use Rattle.cbor_core.specs.declared.item.Item.{Item}
use Rattle.cbor_core.specs.Spelling.{Spells}
use Rattle.cbor_core.specs.Law.{SpellsFront}

-- the first n bytes spell some item
abbrev pub IsSpan : List ℕ → ℕ → Type 0
IsSpan bytes n = (x : Item) × SpellsFront bytes x n

-- the bytes spell some item
abbrev pub IsItem : List ℕ → Type 0
IsItem bytes = (x : Item) × Spells x bytes
