-- Header maps (RFC 9052, section 3).
use Rattle.std.specs.Prelude.{◌≡◌, ◌⊎◌, ℕ, List, [], Option, None, Some, Result, Ok, Err}
use Rattle.cbor_core.specs.declared.item.Item.{Item}
use Rattle.cbor_core.specs.declared.item.Item.TheVariants as i
use Rattle.cbor_core.specs.declared.item.Pair.{Pair}
use Rattle.cbor_core.specs.Spelling.{Spells}
use Rattle.cbor_core.specs.Views.{field, bytes_of}
use Rattle.cose_core.specs.declared.fault.CoseFault.{CoseFault}
use Rattle.cose_core.specs.declared.fault.CoseFault.TheVariants as faults
use Rattle.cose_core.specs.declared.labels.TheConstants.{HEADER_ALG, HEADER_CRIT, HEADER_KID, ALG_HSS_LMS}

-- The headers that protected bytes stand for: no bytes for none, and other bytes are one wrapped map (RFC 9052, section 3).
abbrev pub Wraps : List ℕ → List Pair → Type 0
Wraps bytes headers = ((bytes ≡ []) × (headers ≡ [])) ⊎ Spells (i.Map headers) bytes

-- the algorithm is HSS/LMS (RFC 8778, section 3)
abbrev pub IsHssLms : List Pair → Type 0
IsHssLms headers = field HEADER_ALG headers ≡ Some (i.Negative ALG_HSS_LMS)

-- no header has to be understood (RFC 9052, section 3.1)
abbrev pub IsUncritical : List Pair → Type 0
IsUncritical headers = field HEADER_CRIT headers ≡ None

-- the protected bytes stand for headers that a reader takes
pub record HasGoodHeaders (protected : List ℕ) : Type 0 where
  pub headers : List Pair
  pub wrapped : Wraps protected headers
  pub algorithm : IsHssLms headers
  pub uncritical : IsUncritical headers

-- the bytes of an item that is there, and is a byte string
abbrev pub bytes_if : Option Item → Option (List ℕ)
bytes_if None = None
bytes_if (Some x) = bytes_of x

-- the key identifier: the byte string at the label kid (RFC 9052, section 3.1)
abbrev pub kid_of : List Pair → Option (List ℕ)
kid_of headers = bytes_if (field HEADER_KID headers)

-- ---- what the parts of the reader answer

-- the headers of protected bytes that are not empty
abbrev pub UnwrapsAs : List ℕ → Result (List Pair) CoseFault → Type 0
UnwrapsAs bytes (Ok headers) = Spells (i.Map headers) bytes
UnwrapsAs bytes (Err faults.Shape) = (headers : List Pair) → Spells (i.Map headers) bytes → ⊥
UnwrapsAs bytes (Err faults.NoMemory) = Unit {0}
UnwrapsAs bytes (Err _) = ⊥

-- whether headers name HSS/LMS, and then whether one is critical
abbrev pub JudgedAs : {T : Type 0} → List Pair → Result T CoseFault → Type 0
JudgedAs headers (Ok _) = IsHssLms headers × IsUncritical headers
JudgedAs headers (Err faults.WrongAlg) = ¬ (IsHssLms headers)
JudgedAs headers (Err faults.Critical) = IsHssLms headers × (¬ (IsUncritical headers))
JudgedAs headers (Err _) = ⊥
