-- The form of public keys and signatures.
use Rattle.std.proofs.Common.{◌≡◌, ℕ, List, length}
use Rattle.lms_core.specs.declared.public_key.PublicKey.{PublicKey}
use Rattle.lms_core.specs.Layout.{IsFormed}
use Rattle.lms_core.specs.Lms.{LmsValid, Spells, signature_length}
use Rattle.lms_core.proofs.Keys.{fields_at}
use Rattle.lms_core.proofs.Signatures.{accepted, form_under}

-- a public key has 56 bytes
pub key_size : (public : List ℕ) (key : PublicKey) → Spells public key → length public ≡ 56
key_size public key spells = (fields_at public key spells).size

-- so has one under which something has its form
pub public_key_size : (public signature : List ℕ) → IsFormed public signature → length public ≡ 56
public_key_size public signature formed = key_size public formed.key formed.public_key

-- a valid signature has the form that its key gives it
pub valid_is_formed : (public message signature : List ℕ) → LmsValid public message signature → IsFormed public signature
valid_is_formed public message signature valid = record {
  key = valid.key;
  public_key = valid.public_key;
  form = (accepted public message signature valid.key valid.public_key valid).form;
}

-- the length of that form
pub formed_size : (public signature : List ℕ) (key : PublicKey) → Spells public key → IsFormed public signature → length signature ≡ signature_length key
formed_size public signature key spells formed = (form_under public signature key spells formed).size
