-- LMS public keys and signatures, and when a signature is valid (RFC 8554, 5).
use Rattle.std.specs.Prelude.{◌≡◌, ℕ, ◌+◌, ◌*◌, ◌^◌, ◌<◌, List, ◌++◌, length, Some}
use Rattle.std.specs.List.{concat, AllByRecursion}
use Rattle.lms_core.specs.declared.public_key.PublicKey.{PublicKey}
use Rattle.lms_core.specs.Parameters.{ots_table, lms_table}
use Rattle.lms_core.specs.Bytes.{u32_bytes}
use Rattle.lms_core.specs.OneTime.{message_hash, key_candidate}
use Rattle.lms_core.specs.Tree.{leaf_hash, root_above}

-- the parts of an LMS public key, by a name that other crates may use
abbrev pub LmsKey : Type 0
LmsKey = PublicKey

-- u32str(type) || u32str(otstype) || I || T[1] (RFC 8554, 5.3)
abbrev pub public_key_bytes : PublicKey → List ℕ
public_key_bytes key =
    u32_bytes key.lms_type ++ u32_bytes key.ots_type ++ key.identifier ++ key.root

-- the key's types are in the tables, with its parameters, and its parts have their lengths
pub record IsKnown (key : PublicKey) : Type 0 where
  pub lms_known : lms_table key.lms_type ≡ Some key.height
  pub ots_known : ots_table key.ots_type ≡ Some key.params
  pub identifier_length : length key.identifier ≡ 16
  pub root_length : length key.root ≡ 32

-- the bytes are the public key
pub record Spells (bytes : List ℕ) (key : PublicKey) : Type 0 where
  pub known : IsKnown key
  pub spelled : bytes ≡ public_key_bytes key

-- the bytes are an LMS public key of known types
abbrev pub IsPublicKey : List ℕ → Type 0
IsPublicKey bytes = (key : PublicKey) × Spells bytes key

-- the parts of an LMS signature, with those of the LM-OTS signature in it (RFC 8554, 4.5 and 5.4)
pub record Signature : Type 0 where
  pub leaf : ℕ
  pub ots_type : ℕ
  pub randomizer : List ℕ
  pub chains : List (List ℕ)
  pub lms_type : ℕ
  pub path : List (List ℕ)

-- u32str(type) || C || y[0] || .. || y[p-1] (RFC 8554, 4.5)
abbrev pub ots_signature_bytes : Signature → List ℕ
ots_signature_bytes parts =
    u32_bytes parts.ots_type ++ parts.randomizer ++ concat parts.chains

-- u32str(q) || lmots_signature || u32str(type) || path[0] || .. || path[h-1] (RFC 8554, 5.4)
abbrev pub signature_bytes : Signature → List ℕ
signature_bytes parts =
    u32_bytes parts.leaf ++ ots_signature_bytes parts ++ u32_bytes parts.lms_type
    ++ concat parts.path

-- each of the strings is one hash long
abbrev pub AllHashes : List (List ℕ) → Type 0
AllHashes = AllByRecursion (λ string. length string ≡ 32)

-- the length of a signature under the key: 12 + n * (p + 1) + m * h (RFC 8554, 5.4)
abbrev pub signature_length : PublicKey → ℕ
signature_length key = 12 + 32 * (key.params.p + 1) + 32 * key.height

-- the parts are those of a signature under the key: its types, a leaf of its tree, exact lengths
-- (RFC 8554, 5.4.2)
pub record Fits (parts : Signature) (key : PublicKey) : Type 0 where
  pub same_ots_type : parts.ots_type ≡ key.ots_type
  pub same_lms_type : parts.lms_type ≡ key.lms_type
  pub leaf_below : parts.leaf < 2 ^ key.height
  pub randomizer_length : length parts.randomizer ≡ 32
  pub chain_count : length parts.chains ≡ key.params.p
  pub chain_lengths : AllHashes parts.chains
  pub path_length : length parts.path ≡ key.height
  pub node_lengths : AllHashes parts.path

-- Tc: the root that the parts of a signature of the message lead to (RFC 8554, 5.4.2, algorithm 6a)
unfoldable pub root_candidate : PublicKey → List ℕ → Signature → List ℕ
root_candidate key message parts =
    let digest = message_hash key.identifier parts.leaf parts.randomizer message in
    let one_time_key = key_candidate key.identifier parts.leaf key.params digest parts.chains in
    let node = 2 ^ key.height + parts.leaf in
    root_above key.identifier node (leaf_hash key.identifier node one_time_key) parts.path

-- The signature is a valid one of the message under the public key, all three as byte strings
-- (RFC 8554, 5.4.2).
pub record LmsValid (public message signature : List ℕ) : Type 0 where
  pub key : PublicKey
  pub public_key : Spells public key
  pub parts : Signature
  pub fits : Fits parts key
  pub spelled : signature ≡ signature_bytes parts
  pub root : root_candidate key message parts ≡ key.root
