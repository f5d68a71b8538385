-- What readers answer.
use Rattle.std.specs.Prelude.{◌≡◌, ℕ, List, Option, Some, None, Result, Ok, Err}
use Rattle.cbor_core.specs.declared.item.Item.{Item}
use Rattle.device_state.specs.declared.change.Change.{Change}
use Rattle.trust_anchors.specs.declared.anchors.Anchors.{Anchors}
use Rattle.trust_anchors.specs.declared.fault.AnchorFault.{AnchorFault}
use Rattle.trust_anchors.specs.declared.fault.AnchorFault.TheVariants as anchors
use Rattle.trust_anchors.specs.Anchors.{AnchorsIs}
use Rattle.commit_records.specs.declared.fault.ChangeFault.{ChangeFault}
use Rattle.commit_records.specs.declared.fault.ChangeFault.TheVariants.{BadChange, NoMemory}

-- a value that is so, BadChange where none is so, or nothing is said for want of memory
abbrev pub Answers : {V : Type 0} → (V → Type 0) → Result V ChangeFault → Type 0
Answers {V} P (Ok v) = P v
Answers {V} P (Err BadChange) = (v : V) → P v → ⊥
Answers {V} P (Err NoMemory) = Unit {0}

-- the item has this value in a form
abbrev pub Has : {V : Type 0} → (Item → Option V) → Item → V → Type 0
Has view x v = view x ≡ Some v

-- the item is these anchors
abbrev pub HasAnchors : Item → Anchors → Type 0
HasAnchors x v = AnchorsIs v x

-- why anchors are refused, as a fault of the change that they belong to
abbrev pub fault_of : AnchorFault → ChangeFault
fault_of anchors.NoMemory = NoMemory
fault_of _ = BadChange

-- the answer is this change, unless memory ran out
abbrev pub IsFound : Result Change ChangeFault → Change → Type 0
IsFound (Ok w) v = w ≡ v
IsFound (Err BadChange) v = ⊥
IsFound (Err NoMemory) v = Unit {0}
