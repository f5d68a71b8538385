-- What a text is: that of one proper item, or one with a fault at one place.
use Rattle.std.specs.Prelude.{ℕ, ◌^◌, ◌<◌, ◌≡◌, ◌⊎◌, List, length}
use Rattle.cbor_core.specs.declared.item.Item.{Item}
use Rattle.diag_text.specs.Printed.{Prints}
use Rattle.diag_text.specs.Faulty.{TextFaulty}

-- one proper item has the text, and there is no fault
pub record OneItem (text : List ℕ) : Type 0 where
  pub item : Item
  pub prints : Prints item text
  pub alone : (x : Item) → Prints x text → x ≡ item
  pub no_fault : (at : ℕ) → TextFaulty text at → ⊥

-- the text has one fault, and no proper item has the text
pub record OneFault (text : List ℕ) : Type 0 where
  pub first : ℕ
  pub faulty : TextFaulty text first
  pub alone : (at : ℕ) → TextFaulty text at → at ≡ first
  pub no_item : (x : Item) → Prints x text → ⊥

-- exactly one of the two, for each list that a text could be
abbrev pub ExactlyOne : Type 0
ExactlyOne = (text : List ℕ) → length text < 2 ^ 64 → OneItem text ⊎ OneFault text
