-- What bytes as a whole give: the value or the refusal of the item that they spell, or the fault by which they spell none.
use Rattle.std.specs.Prelude.{ℕ, ◌≡◌, ◌⊎◌, List, Result, Ok, Err}
use Rattle.cbor_core.specs.declared.item.Item.{Item}
use Rattle.cbor_heads.specs.declared.fault.Fault.{Fault}
use Rattle.cbor_core.specs.Spelling.{Spells, IsProper, HasRanges, spelling}
use Rattle.cbor_core.specs.Law.{IsFaultyWhole}
use Rattle.item_codec.specs.Answers.{IsSettled}

-- the bytes spell an item that has this value
pub record HasValue {V E : Type 0} (view : Item → Result V E) (bytes : List ℕ) (value : V) : Type 0 where
  pub item : Item
  pub spelled : Spells item bytes
  pub is : view item ≡ Ok value

-- the bytes spell an item that has this refusal
pub record IsMisfit {V E : Type 0} (view : Item → Result V E) (bytes : List ℕ) (refusal : E) : Type 0 where
  pub item : Item
  pub spelled : Spells item bytes
  pub is : view item ≡ Err refusal

-- the bytes spell no item (RFC 8949, section 4.2.1), and this is said of their fault
pub record IsNoItem {E : Type 0} (cbor : Fault → E) (bytes : List ℕ) (refusal : E) : Type 0 where
  pub fault : Fault
  pub faulty : IsFaultyWhole bytes fault
  pub is : refusal ≡ cbor fault

-- the bytes have this refusal: they spell no item, or one that has it
abbrev pub HasRefusal : {V E : Type 0} → (Fault → E) → (Item → Result V E) → List ℕ → E → Type 0
HasRefusal cbor view bytes refusal = IsNoItem cbor bytes refusal ⊎ IsMisfit view bytes refusal

-- the bytes have this value, or this refusal
abbrev pub BytesGive : {V E : Type 0} → (Fault → E) → (Item → Result V E) → List ℕ → Result V E → Type 0
BytesGive cbor view bytes (Ok value) = HasValue view bytes value
BytesGive cbor view bytes (Err refusal) = HasRefusal cbor view bytes refusal

-- a reader of bytes answers what they give, unless memory runs out
abbrev pub BytesAnswer : {V E : Type 0} → E → (Fault → E) → (Item → Result V E) → List ℕ → Result V E → Type 0
BytesAnswer none cbor view bytes (Ok value) = HasValue view bytes value
BytesAnswer none cbor view bytes (Err refusal) = (refusal ≡ none) ⊎ HasRefusal cbor view bytes refusal

-- the bytes have exactly one value or exactly one refusal, and never both; the refusal is not want of memory
pub record OneAnswer {V E : Type 0} (none : E) (cbor : Fault → E) (view : Item → Result V E) (bytes : List ℕ) : Type 0 where
  pub answer : Result V E
  pub given : BytesGive cbor view bytes answer
  pub alone : (other : Result V E) → BytesGive cbor view bytes other → other ≡ answer
  pub settled : IsSettled none answer

-- the value has its property, its item is proper and in range, and the bytes are that item's spelling
pub record IsWrittenAs {V : Type 0} (item : V → Item) (P : V → Type 0) (bytes : List ℕ) (value : V) : Type 0 where
  pub fields : P value
  pub item_proper : IsProper (item value)
  pub in_range : HasRanges (item value)
  pub spelled : bytes ≡ spelling (item value)
