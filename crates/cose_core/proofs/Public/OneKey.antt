-- Bytes are one COSE_Key, or have one refusal, and never both.
use Rattle.std.proofs.Common.{◌≡◌, ◌⊎◌, ℕ, List, inl, inr}
use Rattle.std.specs.Prelude.{Result, Ok, Err}
use Rattle.base_types.specs.Bytes.{IsBytes}
use Rattle.cbor_heads.specs.declared.fault.Fault.{Fault}
use Rattle.item_codec.specs.Whole.{BytesGive}
use Rattle.item_codec.proofs.Public.Whole as whole
use Rattle.cose_core.specs.declared.key.CoseKey.{CoseKey}
use Rattle.cose_core.specs.declared.fault.KeyFault.{KeyFault}
use Rattle.cose_core.specs.declared.fault.KeyFault.TheVariants as faults
use Rattle.cose_core.specs.Key.{KeyIs, KeyRefusedAs, key_of}
use Rattle.cose_core.specs.Law.{OneKey}
use Rattle.cose_core.proofs.Keys.{key_settled}

-- bytes are one key at most
pub one_key : (bytes : List ℕ) (v w : CoseKey) → KeyIs v bytes → KeyIs w bytes → v ≡ w
one_key bytes v w is other = whole.one_value key_of bytes v w is other

-- a key's bytes have no refusal
pub key_not_refused : (bytes : List ℕ) (v : CoseKey) (e : KeyFault) → KeyIs v bytes → KeyRefusedAs bytes e → ⊥
key_not_refused bytes v e is refused = whole.not_both key_of bytes (λ f. faults.NotCbor f) v e is refused

cbor_told : (f : Fault) → faults.NotCbor f ≡ faults.NoMemory → ⊥
cbor_told f e = cc

-- bytes are a key, or have a refusal
pub key_or_refused : OneKey
key_or_refused bytes are = whole.one_answer faults.NoMemory (λ f. faults.NotCbor f) cbor_told key_of key_settled bytes are

by_answer : (bytes : List ℕ) (r : Result CoseKey KeyFault) → BytesGive (λ f. faults.NotCbor f) key_of bytes r → ((v : CoseKey) × KeyIs v bytes) ⊎ ((v : CoseKey) → KeyIs v bytes → ⊥)
by_answer bytes (Ok v) is = inl (v, is)
by_answer bytes (Err e) refused = inr (λ v is. key_not_refused bytes v e is refused)

-- bytes are a key, or none
pub key_or_none : (bytes : List ℕ) → IsBytes bytes → ((v : CoseKey) × KeyIs v bytes) ⊎ ((v : CoseKey) → KeyIs v bytes → ⊥)
key_or_none bytes are = let one = key_or_refused bytes are in by_answer bytes one.answer one.given
