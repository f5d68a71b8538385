-- Which of some blocks an anchor signed, each a COSE_Sign1 whose payload travels elsewhere.
use Rattle.std.specs.Prelude.{◌≡◌, ℕ, List, None, Result, Ok, Err}
use Rattle.std.specs.List.{AllByRecursion}
use Rattle.cose_core.specs.declared.sign1.Sign1.{Sign1}
use Rattle.cose_core.specs.Sign1.{Sign1Is}
use Rattle.trust_anchors.specs.declared.anchors.Anchors.{Anchors}
use Rattle.trust_anchors.specs.declared.role.Role.{Role}
use Rattle.trust_anchors.specs.declared.fault.SignFault.{SignFault}
use Rattle.trust_anchors.specs.declared.fault.SignFault.TheVariants as faults
use Rattle.trust_anchors.specs.First.{FirstAt}
use Rattle.trust_anchors.specs.Verified.{Verified}

-- The bytes are a COSE_Sign1 without payload (RFC 9052, section 2: detached content), and this anchor is the first of the role that signed it over the payload.
pub record BlockSigned (v : Anchors) (r : Role) (payload block : List ℕ) (anchor : ℕ) : Type 0 where
  pub message : Sign1
  pub is : Sign1Is message block
  pub detached : message.payload ≡ None
  pub verified : Verified v r message payload anchor

-- no anchor of the role signed the block over the payload
abbrev pub BlockPassed : Anchors → Role → List ℕ → List ℕ → Type 0
BlockPassed v r payload block = (anchor : ℕ) → BlockSigned v r payload block anchor → ⊥

-- the first block that is signed, with its first anchor
abbrev pub VerifiedAny : Anchors → Role → List (List ℕ) → List ℕ → ℕ → ℕ → Type 0
VerifiedAny v r blocks payload block anchor = FirstAt (BlockPassed v r payload) (λ bytes. BlockSigned v r payload bytes anchor) blocks block

-- the answer is this place, unless memory ran out
abbrev pub IsPlace : Result (ℕ × ℕ) SignFault → ℕ → ℕ → Type 0
IsPlace (Ok t) block anchor = (t.0 ≡ block) × (t.1 ≡ anchor)
IsPlace (Err faults.NotSigned) block anchor = ⊥
IsPlace (Err faults.NoMemory) block anchor = Unit {0}

-- what the search among blocks answers
abbrev pub BlocksSearchedAs : Anchors → Role → List (List ℕ) → List ℕ → Result (ℕ × ℕ) SignFault → Type 0
BlocksSearchedAs v r blocks payload (Ok t) = VerifiedAny v r blocks payload t.0 t.1
BlocksSearchedAs v r blocks payload (Err faults.NotSigned) = AllByRecursion (BlockPassed v r payload) blocks
BlocksSearchedAs v r blocks payload (Err faults.NoMemory) = Unit {0}
