-- What the parts of the readers answer.
use Rattle.std.specs.Prelude.{◌≡◌, ◌<◌, ◌^◌, ℕ, Option, Some, None, Result, Ok, Err}
use Rattle.cbor_core.specs.declared.item.Item.{Item}
use Rattle.cbor_core.specs.Views.{unsigned_of}
use Rattle.device_config.specs.declared.config.Config.{Config}
use Rattle.device_config.specs.declared.fault.ConfigFault.{ConfigFault}
use Rattle.device_config.specs.declared.fault.ConfigFault.TheVariants.{BadConfig, NoMemory}
use Rattle.trust_anchors.specs.declared.fault.AnchorFault.{AnchorFault}
use Rattle.trust_anchors.specs.declared.fault.AnchorFault.TheVariants as anchors

-- a value that is so, BadConfig where none is so, or nothing is said for want of memory
abbrev pub Answers : {V : Type 0} → (V → Type 0) → Result V ConfigFault → Type 0
Answers {V} P (Ok v) = P v
Answers {V} P (Err BadConfig) = (v : V) → P v → ⊥
Answers {V} P (Err NoMemory) = Unit {0}

-- why anchors are refused, as a fault of the configuration that they belong to
abbrev pub fault_of : AnchorFault → ConfigFault
fault_of anchors.NoMemory = NoMemory
fault_of _ = BadConfig

-- the answer is this configuration, unless memory ran out
abbrev pub IsFound : Result Config ConfigFault → Config → Type 0
IsFound (Ok w) v = w ≡ v
IsFound (Err BadConfig) v = ⊥
IsFound (Err NoMemory) v = Unit {0}

-- a number of 32 bits
abbrev pub IsNumber : Item → ℕ → Type 0
IsNumber x n = (unsigned_of x ≡ Some n) × (n < 2 ^ 32)

-- a value that is so, or none where none is so
abbrev pub Finds : {V : Type 0} → (V → Type 0) → Option V → Type 0
Finds {V} P (Some v) = P v
Finds {V} P None = (v : V) → P v → ⊥
