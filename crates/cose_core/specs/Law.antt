-- What bytes as a whole are: a value, or refused in one way.
use Rattle.std.specs.Prelude.{ℕ, ◌≡◌, ◌⊎◌, List}
use Rattle.base_types.specs.Bytes.{IsBytes}
use Rattle.item_codec.specs.Whole.{OneAnswer}
use Rattle.cose_core.specs.declared.sign1.Sign1.{Sign1}
use Rattle.cose_core.specs.declared.fault.CoseFault.{CoseFault}
use Rattle.cose_core.specs.declared.fault.KeyFault.TheVariants as faults
use Rattle.cose_core.specs.Sign1.{Sign1Is, RefusedAs}
use Rattle.cose_core.specs.Key.{key_of}

-- there is one value, and no refusal
pub record OneValue {V E : Type 0} (Is : V → Type 0) (Refused : E → Type 0) : Type 0 where
  pub value : V
  pub is : Is value
  pub alone : (other : V) → Is other → other ≡ value
  pub no_refusal : (fault : E) → Refused fault → ⊥

-- there is one refusal, and no value
pub record OneRefusal {V E : Type 0} (Is : V → Type 0) (Refused : E → Type 0) : Type 0 where
  pub fault : E
  pub refused : Refused fault
  pub alone : (other : E) → Refused other → other ≡ fault
  pub no_value : (value : V) → Is value → ⊥

-- one value or one refusal, and not both
abbrev pub ExactlyOne : {V E : Type 0} → (V → Type 0) → (E → Type 0) → Type 0
ExactlyOne Is Refused = OneValue Is Refused ⊎ OneRefusal Is Refused

-- each list of bytes is one COSE_Sign1 (RFC 9052, section 4.2), or has one refusal
abbrev pub OneEnvelope : Type 0
OneEnvelope = (bytes : List ℕ) → IsBytes bytes → ExactlyOne (λ (v : Sign1). Sign1Is v bytes) (λ (e : CoseFault). RefusedAs bytes e)

-- each list of bytes is exactly one COSE_Key (RFC 9052, section 7), or has exactly one refusal, and never both
abbrev pub OneKey : Type 0
OneKey = (bytes : List ℕ) → IsBytes bytes → OneAnswer faults.NoMemory (λ f. faults.NotCbor f) key_of bytes
