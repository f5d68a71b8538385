-- What bytes as a whole, and a front of them, are: an item, or one fault.
use Rattle.std.specs.Prelude.{ℕ, ◌≤◌, ◌<◌, ◌≡◌, ◌⊎◌, List, [], ◌++◌, length, take}
use Rattle.base_types.specs.declared.limits.TheConstants.{CBOR_DEPTH_LIMIT}
use Rattle.cbor_core.specs.declared.item.Item.{Item}
use Rattle.cbor_heads.specs.declared.fault.Fault.{Fault}
use Rattle.cbor_heads.specs.declared.fault.Why.TheVariants as why
use Rattle.cbor_heads.specs.Place.{start}
use Rattle.std.specs.List.{AllByRecursion}
use Rattle.cbor_core.specs.declared.item.Item.TheVariants as i
use Rattle.cbor_core.specs.declared.item.Pair.{Pair}
use Rattle.base_types.specs.Bytes.{IsBytes}
use Rattle.cbor_core.specs.Spelling.{KeysAscend, IsProper, Spells}
use Rattle.cbor_core.specs.Faulty.{Faulty}

-- the first n bytes spell the item
abbrev pub SpellsFront : List ℕ → Item → ℕ → Type 0
SpellsFront bytes x n = (n ≤ length bytes) × Spells x (take n bytes)

-- the item that begins at the first byte is faulty
abbrev pub IsFaulty : List ℕ → Fault → Type 0
IsFaulty bytes f = Faulty CBOR_DEPTH_LIMIT (start bytes) f

-- a front of the bytes spells an item, and the fault is the first byte behind it
pub record HasExtra (bytes : List ℕ) (f : Fault) : Type 0 where
  pub item : Item
  pub front : SpellsFront bytes item f.at
  pub more : f.at < length bytes
  pub why : f.why ≡ why.Extra

-- the bytes as a whole have this fault
abbrev pub IsFaultyWhole : List ℕ → Fault → Type 0
IsFaultyWhole bytes f = IsFaulty bytes f ⊎ HasExtra bytes f

-- one front of the bytes spells an item, and one item, and there is no fault
pub record OneItem (bytes : List ℕ) : Type 0 where
  pub item : Item
  pub count : ℕ
  pub spelled : SpellsFront bytes item count
  pub alone : (x : Item) (n : ℕ) → SpellsFront bytes x n → (x ≡ item) × (n ≡ count)
  pub no_fault : (f : Fault) → IsFaulty bytes f → ⊥

-- there is one fault, and no front spells an item
pub record OneFault (bytes : List ℕ) : Type 0 where
  pub first : Fault
  pub faulty : IsFaulty bytes first
  pub alone : (f : Fault) → IsFaulty bytes f → f ≡ first
  pub no_item : (x : Item) (n : ℕ) → SpellsFront bytes x n → ⊥

-- exactly one of the two, for each list of bytes
abbrev pub ExactlyOne : Type 0
ExactlyOne = (bytes : List ℕ) → IsBytes bytes → OneItem bytes ⊎ OneFault bytes

-- the bytes as a whole spell one item, and there is no fault
pub record OneItemWhole (bytes : List ℕ) : Type 0 where
  pub item : Item
  pub spelled : Spells item bytes
  pub alone : (x : Item) → Spells x bytes → x ≡ item
  pub no_fault : (f : Fault) → IsFaultyWhole bytes f → ⊥

-- the bytes as a whole have one fault, and spell no item
pub record OneFaultWhole (bytes : List ℕ) : Type 0 where
  pub first : Fault
  pub faulty : IsFaultyWhole bytes first
  pub alone : (f : Fault) → IsFaultyWhole bytes f → f ≡ first
  pub no_item : (x : Item) → Spells x bytes → ⊥

-- exactly one of the two, for each list of bytes as a whole
abbrev pub ExactlyOneWhole : Type 0
ExactlyOneWhole = (bytes : List ℕ) → IsBytes bytes → OneItemWhole bytes ⊎ OneFaultWhole bytes

-- what spells an item is a front of its bytes and of anything that goes on behind them
abbrev pub SpelledInFront : Type 0
SpelledInFront = (x : Item) (bytes more : List ℕ) → Spells x bytes → SpellsFront (bytes ++ more) x (length bytes)

-- bytes spell one item at most, and an item is spelled by one list of bytes at most
pub record OneForOne : Type 0 where
  pub one_item : (x y : Item) (bytes : List ℕ) → Spells x bytes → Spells y bytes → x ≡ y
  pub one_spelling : (x : Item) (a b : List ℕ) → Spells x a → Spells x b → a ≡ b

-- the parts of a proper item are proper, and the keys of a proper map ascend
pub record PartsAreProper : Type 0 where
  pub members : (xs : List Item) → IsProper (i.Array xs) → AllByRecursion IsProper xs
  pub pairs : (ps : List Pair) → IsProper (i.Map ps) → AllByRecursion (λ p. IsProper p.key × IsProper p.value) ps
  pub keys : (ps : List Pair) → IsProper (i.Map ps) → KeysAscend [] ps
  pub content : (n : ℕ) (x : Item) → IsProper (i.Tag n x) → IsProper x
