-- The parts of a signature at their places in the bytes.
use Rattle.std.specs.Prelude.{◌≡◌, ℕ, zero, suc, ◌+◌, ◌*◌, ◌^◌, ◌<◌, List, [], ◌∷◌, length, take, drop, slice_range}
use Rattle.lms_core.specs.declared.public_key.PublicKey.{PublicKey}
use Rattle.lms_core.specs.Bytes.{u32_at}
use Rattle.lms_core.specs.Lms.{Signature, Spells, signature_length}

-- the first n strings of 32 bytes
abbrev pub hashes_in : ℕ → List ℕ → List (List ℕ)
hashes_in zero bytes = []
hashes_in (suc n) bytes = take 32 bytes ∷ hashes_in n (drop 32 bytes)

-- where the one-time signature ends
abbrev pub chains_end : PublicKey → ℕ
chains_end key = 40 + 32 * key.params.p

-- the bytes have the length of a signature under the key, its types and a leaf of its tree
pub record HasForm (key : PublicKey) (bytes : List ℕ) : Type 0 where
  pub size : length bytes ≡ signature_length key
  pub leaf : u32_at bytes 0 < 2 ^ key.height
  pub ots_type : u32_at bytes 4 ≡ key.ots_type
  pub lms_type : u32_at bytes (chains_end key) ≡ key.lms_type

-- the signature has the length and the types that the public key gives it, and a leaf of its tree, both as byte strings
pub record IsFormed (public signature : List ℕ) : Type 0 where
  pub key : PublicKey
  pub public_key : Spells public key
  pub form : HasForm key signature

-- the parts of a signature under the key, read at their places
unfoldable pub signature_at : PublicKey → List ℕ → Signature
signature_at key bytes = record {
  leaf = u32_at bytes 0;
  ots_type = u32_at bytes 4;
  randomizer = slice_range bytes 8 40;
  chains = hashes_in key.params.p (slice_range bytes 40 (chains_end key));
  lms_type = u32_at bytes (chains_end key);
  path = hashes_in key.height (drop (chains_end key + 4) bytes);
}
