-- What a codec, or a part of one, keeps.
use Rattle.std.specs.Prelude.{◌≡◌, Option, Some, Result, Ok}
use Rattle.cbor_core.specs.declared.item.Item.{Item}
use Rattle.cbor_fields.specs.Written.{IsSpelled}
use Rattle.item_codec.specs.Answers.{IsSettled}

-- every value
abbrev pub Any : {V : Type 0} → V → Type 0
Any v = Unit {0}

-- A view that gives an item its value or its first refusal, the item that a value is written as, and the property that values have.
pub record Part {V E : Type 0} (none : E) (view : Item → Result V E) (item : V → Item) (P : V → Type 0) : Type 0 where
  -- an item has a value, or a refusal that is not want of memory
  pub settled : (x : Item) → IsSettled none (view x)
  -- of the items that bytes spell, one at most has a value: the one that it is written as
  pub fixes : (x : Item) (v : V) → IsSpelled x → view x ≡ Ok v → x ≡ item v
  -- a value that was read has the property
  pub proper : (x : Item) (v : V) → IsSpelled x → view x ≡ Ok v → P v
  -- what is written of a value with the property is read as it
  pub seen : (v : V) → P v → view (item v) ≡ Ok v

-- The same of a form, which gives an item its value or none.
pub record Exact {V : Type 0} (view : Item → Option V) (item : V → Item) (P : V → Type 0) : Type 0 where
  pub fixes : (x : Item) (v : V) → IsSpelled x → view x ≡ Some v → x ≡ item v
  pub proper : (x : Item) (v : V) → IsSpelled x → view x ≡ Some v → P v
  pub seen : (v : V) → P v → view (item v) ≡ Some v

-- The same but for `fixes`: a view that passes over what it does not know has its values of several items.
pub record PassingPart {V E : Type 0} (none : E) (view : Item → Result V E) (item : V → Item) (P : V → Type 0) : Type 0 where
  pub settled : (x : Item) → IsSettled none (view x)
  pub proper : (x : Item) (v : V) → IsSpelled x → view x ≡ Ok v → P v
  pub seen : (v : V) → P v → view (item v) ≡ Ok v
