-- A message is signed by an anchor, or by none.
use Rattle.std.proofs.Common.{ℕ, List, ◌⊎◌, inl, inr}
use Rattle.cbor_core.specs.Spelling.{spelling}
use Rattle.cose_core.specs.declared.sign1.Sign1.{Sign1}
use Rattle.cose_core.specs.Signed.{signed_item}
use Rattle.hss_verify.proofs.Public.Decided.{hss_valid_or_not}
use Rattle.trust_anchors.specs.declared.anchors.Anchors.{Anchors}
use Rattle.trust_anchors.specs.declared.role.Role.{Role}
use Rattle.trust_anchors.specs.Anchors.{keys_of}
use Rattle.trust_anchors.specs.Verified.{Signs, FirstSigner, Verified}
use Rattle.trust_anchors.proofs.Lists.{first_or_all, first_none, all_each}

-- of some keys one is the first that made the signature, or none made it
pub signer_or_none : (keys : List (List ℕ)) (message signature : List ℕ)
    → ((at : ℕ) × FirstSigner keys message signature at) ⊎ ((at : ℕ) → FirstSigner keys message signature at → ⊥)
signer_or_none keys m s = elim (first_or_all (λ key. ¬ (Signs m s key)) (Signs m s) keys (all_each (λ key. Signs m s key ⊎ (¬ (Signs m s key))) (λ key. hss_valid_or_not key m s) keys)) [
  | inl first ↦ inl first
  | inr none ↦ inr (λ at first. first_none (λ key. ¬ (Signs m s key)) (Signs m s) (λ key wrong right. wrong right) keys at none first)
]

-- some anchor of the role is the first that signed the message, or none did
pub signed_or_not : (v : Anchors) (r : Role) (message : Sign1) (payload : List ℕ)
    → ((at : ℕ) × Verified v r message payload at) ⊎ ((at : ℕ) → Verified v r message payload at → ⊥)
signed_or_not v r message payload = signer_or_none (keys_of r v) (spelling (signed_item message.protected payload)) message.signature
