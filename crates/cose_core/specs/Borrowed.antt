-- A COSE_Sign1 where it lies in some bytes.
use Rattle.std.specs.Prelude.{◌≡◌, ℕ, List, Option, Some, None, Result, Ok, Err, option_map}
use Rattle.cose_core.specs.declared.borrowed.Signed.{Signed}
use Rattle.cose_core.specs.declared.fault.CoseFault.{CoseFault}
use Rattle.cose_core.specs.declared.sign1.Sign1.{Sign1}
use Rattle.cose_core.specs.Headers.{kid_of}
use Rattle.cose_core.specs.Sign1.{Sign1Is, RefusedAs}

-- The slices are the value's parts (RFC 9052, section 4.2), and its key identifier where it has one (section 3.1).
pub record IsPartsOf (w : Signed) (v : Sign1) : Type 0 where
  pub protected : w.protected.now ≡ v.protected
  pub kid : option_map (λ s. s.now) w.kid ≡ kid_of v.unprotected
  pub payload : option_map (λ s. s.now) w.payload ≡ v.payload
  pub signature : w.signature.now ≡ v.signature

-- Parts were found where there is a value, and they are its parts.
abbrev pub FormIs : Option Sign1 → Option Signed → Type 0
FormIs None None = Unit {0}
FormIs None (Some w) = ⊥
FormIs (Some v) None = ⊥
FormIs (Some v) (Some w) = IsPartsOf w v

-- The answer is the parts of what the bytes are, or what the bytes are refused for.
abbrev pub SignedAs : List ℕ → Result Signed CoseFault → Type 0
SignedAs bytes (Ok w) = (v : Sign1) × Sign1Is v bytes × IsPartsOf w v
SignedAs bytes (Err e) = RefusedAs bytes e
