-- Digests: which items are one, and which bytes have one.
use Rattle.std.specs.Prelude.{ℕ, ◌≡◌, ◌==◌, List, [], ◌∷◌, length, Option, Some, None, Result, Ok, Err, if◌then◌else◌}
use Rattle.sha2.specs.Sha256.{sha256}
use Rattle.sha2.specs.Sha512.{sha384, sha512}
use Rattle.base_types.specs.Bytes.{IsBytes}
use Rattle.cbor_core.specs.declared.item.Item.{Item, out-Item}
use Rattle.cbor_core.specs.declared.item.Item.TheOpen.{Item-F}
use Rattle.cbor_core.specs.declared.item.Item.TheVariants as i
use Rattle.cbor_core.specs.declared.item.Pair.{Pair}
use Rattle.cbor_fields.specs.declared.fault.FormFault.{FormFault}
use Rattle.cbor_fields.specs.declared.fault.FormFault.TheVariants.{Shape}
use Rattle.item_codec.specs.Answers.{value_of}
use Rattle.item_codec.specs.Fields.{shaped, sized, part, in_array}
use Rattle.item_codec.specs.Wrapped.{wrapped, IsWrappable}
use Rattle.suit_commands.specs.declared.digest.Digest.{Digest}
use Rattle.suit_commands.specs.declared.digest.DigestAlgorithm.{DigestAlgorithm}
use Rattle.suit_commands.specs.declared.digest.DigestAlgorithm.TheVariants.{Sha256, Sha384, Sha512}

-- the hash of bytes by a function (FIPS 180-4)
abbrev pub hash_of : DigestAlgorithm → List ℕ → List ℕ
hash_of Sha256 bytes = sha256 bytes
hash_of Sha384 bytes = sha384 bytes
hash_of Sha512 bytes = sha512 bytes

-- ---- what is read

-- the hash functions -16, -43 and -44 (RFC 9054, section 2.1), each by the n of -1-n
abbrev pub algorithm_numbered : ℕ → Option DigestAlgorithm
algorithm_numbered n = if n == 15 then Some Sha256 else (if n == 42 then Some Sha384 else (if n == 43 then Some Sha512 else None))

-- the hash function that an item names, by its layer
abbrev pub algorithm_by : Item-F Item Pair → Option DigestAlgorithm
algorithm_by (Item-F.Negative n) = algorithm_numbered n
algorithm_by _ = None

-- the hash function that an item names
abbrev pub algorithm_of : Item → Option DigestAlgorithm
algorithm_of x = algorithm_by (out-Item x)

-- how many bytes a hash has
abbrev pub size_of : DigestAlgorithm → ℕ
size_of Sha256 = 32
size_of Sha384 = 48
size_of Sha512 = 64

-- the digest by a hash function, with the bytes of an item, which are as many as a hash has
abbrev pub digest_by : DigestAlgorithm → Item → Result Digest FormFault
digest_by algorithm b =
    part (sized (size_of algorithm) (size_of algorithm) Shape Shape) b (λ bytes.
    Ok (record { algorithm = algorithm; bytes = bytes }))

-- [alg, bytes]
abbrev pub digest_in : List Item → Result Digest FormFault
digest_in (a ∷ b ∷ []) = part (shaped Shape algorithm_of) a (λ algorithm. digest_by algorithm b)
digest_in _ = Err Shape

-- the digest of an array [alg, bytes]
abbrev pub digest_of : Item → Option Digest
digest_of x = value_of (in_array Shape digest_in x)

-- the digest of a byte string that wraps such an array
abbrev pub wrapped_digest_of : Item → Option Digest
wrapped_digest_of x = value_of (wrapped Shape (in_array Shape digest_in) x)

-- ---- what is written

-- the n of the number -1-n of a hash function
abbrev pub number_of : DigestAlgorithm → ℕ
number_of Sha256 = 15
number_of Sha384 = 42
number_of Sha512 = 43

-- the item that names a hash function
abbrev pub algorithm_item : DigestAlgorithm → Item
algorithm_item algorithm = i.Negative (number_of algorithm)

-- the number of the hash function, and the bytes
abbrev pub digest_members : Digest → List Item
digest_members v = algorithm_item v.algorithm ∷ i.Bytes v.bytes ∷ []

-- the array of these
abbrev pub digest_item : Digest → Item
digest_item v = i.Array (digest_members v)

-- a digest is bytes, as many as its algorithm's
abbrev pub IsProperDigest : Digest → Type 0
IsProperDigest v = IsBytes v.bytes × (length v.bytes ≡ size_of v.algorithm)

-- and bytes spell the array of it, so that it may be wrapped
abbrev pub IsWrappableDigest : Digest → Type 0
IsWrappableDigest v = IsWrappable digest_item IsProperDigest v
