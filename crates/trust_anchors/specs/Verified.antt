-- Which anchor signed a message.
use Rattle.std.specs.Prelude.{◌≡◌, ◌⊎◌, ℕ, List, Result, Ok, Err}
use Rattle.cose_core.specs.declared.sign1.Sign1.{Sign1}
use Rattle.cose_core.specs.Signed.{signed_item}
use Rattle.cbor_core.specs.Spelling.{spelling}
use Rattle.hss_verify.specs.Hss.{HssValid}
use Rattle.trust_anchors.specs.declared.anchors.Anchors.{Anchors}
use Rattle.trust_anchors.specs.declared.role.Role.{Role}
use Rattle.trust_anchors.specs.declared.fault.SignFault.{SignFault}
use Rattle.trust_anchors.specs.declared.fault.SignFault.TheVariants as faults
use Rattle.trust_anchors.specs.Anchors.{keys_of}
use Rattle.std.specs.List.{AllByRecursion}
use Rattle.trust_anchors.specs.First.{FirstAt}

-- the key made the signature of these bytes
abbrev pub Signs : List ℕ → List ℕ → List ℕ → Type 0
Signs message signature key = HssValid key message signature

-- the first key that made the signature of the bytes
abbrev pub FirstSigner : List (List ℕ) → List ℕ → List ℕ → ℕ → Type 0
FirstSigner keys message signature at = FirstAt (λ key. ¬ (Signs message signature key)) (Signs message signature) keys at

-- the anchor at this place of the role is the first whose signature of these protected bytes and this payload it is (RFC 9052, section 4.4)
abbrev pub VerifiedBy : Anchors → Role → List ℕ → List ℕ → List ℕ → ℕ → Type 0
VerifiedBy v r protected signature payload at = FirstSigner (keys_of r v) (spelling (signed_item protected payload)) signature at

-- the same of a message
abbrev pub Verified : Anchors → Role → Sign1 → List ℕ → ℕ → Type 0
Verified v r message payload at = VerifiedBy v r message.protected message.signature payload at

-- the answer is this anchor, unless memory ran out
abbrev pub IsSigner : Result ℕ SignFault → ℕ → Type 0
IsSigner (Ok n) at = n ≡ at
IsSigner (Err faults.NotSigned) at = ⊥
IsSigner (Err faults.NoMemory) at = Unit {0}

-- what the search for a signer answers
abbrev pub SearchedAs : List (List ℕ) → List ℕ → List ℕ → Result ℕ SignFault → Type 0
SearchedAs keys message signature (Ok at) = FirstSigner keys message signature at
SearchedAs keys message signature (Err faults.NotSigned) = AllByRecursion (λ key. ¬ (Signs message signature key)) keys
SearchedAs keys message signature (Err faults.NoMemory) = ⊥

-- what the search answers where memory may run out
abbrev pub SearchedOver : List (List ℕ) → List ℕ → List ℕ → Result ℕ SignFault → Type 0
SearchedOver keys message signature result = SearchedAs keys message signature result ⊎ (result ≡ Err faults.NoMemory)
