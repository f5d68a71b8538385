-- HSS public keys and signatures: a chain of LMS trees, each of which signs the key of the next
-- (RFC 8554, 6).
use Rattle.std.specs.Prelude.{◌≡◌, ℕ, ◌+◌, ◌≤◌, List, [], ◌∷◌, ◌++◌, length}
use Rattle.std.specs.List.{flat_map}
use Rattle.lms_core.specs.Bytes.{u32_bytes}
use Rattle.lms_core.specs.Layout.{IsFormed}
use Rattle.lms_core.specs.Lms.{IsPublicKey, LmsValid}

-- The bytes are an HSS public key of known types: u32str(L) || pub[0], with L from 1 to 8
-- (RFC 8554, 6.1).
pub record IsHssPublic (bytes : List ℕ) : Type 0 where
  pub levels : ℕ
  pub top : List ℕ
  pub at_least_one : 1 ≤ levels
  pub at_most_eight : levels ≤ 8
  pub known : IsPublicKey top
  pub spelled : bytes ≡ u32_bytes levels ++ top

-- a key of the chain, signed by the key before it: signed_pub_key (RFC 8554, 6.2)
pub record Link : Type 0 where
  pub signature : List ℕ
  pub key : List ℕ

-- a signature, and then the key that it signs
abbrev pub link_bytes : Link → List ℕ
link_bytes link = link.signature ++ link.key

-- when a key signs a message by a signature
abbrev pub Signing : Type 1
Signing = List ℕ → List ℕ → List ℕ → Type 0

-- each key signs the next one, and the last key signs the message (RFC 8554, 6.3)
abbrev pub IsSignedBy : Signing → List ℕ → List Link → List ℕ → List ℕ → Type 0
IsSignedBy Signs key [] last message = Signs key message last
IsSignedBy Signs key (link ∷ links) last message =
    Signs key link.key link.signature × IsSignedBy Signs link.key links last message

-- The signature is a valid one of the message under the public key, all three as byte strings:
-- u32str(Nspk) || signed_pub_key[0] || .. || signed_pub_key[Nspk-1] || sig[Nspk], with
-- Nspk + 1 = L (RFC 8554, 6.2 and 6.3). Each part has the exact length that its key's types give
-- it, so nothing follows.
pub record HssValid (public message signature : List ℕ) : Type 0 where
  pub public_key : IsHssPublic public
  pub links : List Link
  pub last : List ℕ
  pub link_count : length links + 1 ≡ public_key.levels
  pub spelled : signature ≡ u32_bytes (length links) ++ flat_map link_bytes links ++ last
  pub signed : IsSignedBy LmsValid public_key.top links last message

-- the bytes are so many links and a last signature, by which the key signs the message
pub record IsChain (Signs : Signing) (key : List ℕ) (n : ℕ) (bytes message : List ℕ) : Type 0 where
  pub links : List Link
  pub last : List ℕ
  pub link_count : length links ≡ n
  pub spelled : bytes ≡ flat_map link_bytes links ++ last
  pub signed : IsSignedBy Signs key links last message

-- the signature has the length and the types that the key gives it, whatever it signs
abbrev pub HasKeyForm : Signing
HasKeyForm key message signature = IsFormed key signature
