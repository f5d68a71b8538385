-- A hash is bytes, as many as its function's.
use Rattle.std.proofs.Common.{◌≡◌, ◌⊎◌, ℕ, zero, suc, ◌-◌, ◌<◌, ◌≤◌, List, [], ◌∷◌, ◌++◌, length, get_or, inl, inr, refl, sym, ap, subst, ◌∙◌, arith}
use Rattle.std.specs.Int.{byte_at, bytes_high_first}
use Rattle.std.proofs.lemmas.Bool.{cases_lt}
use Rattle.std.proofs.lemmas.List.{get_or_append_left, get_or-append_right}
use Rattle.sha2.specs.Sha256.{sha256, digest_bytes as words_256}
use Rattle.sha2.specs.Sha512.{sha384, sha512, digest_bytes as words_512}
use Rattle.sha2.proofs.Facts256.{length-sha256}
use Rattle.sha2.proofs.Facts512.{length-sha384, length-sha512}
use Rattle.base_types.specs.Bytes.{IsBytes}
use Rattle.base_types.proofs.Public.Bytes.{IsBytes-take}
use Rattle.suit_commands.specs.declared.digest.Digest.{Digest}
use Rattle.suit_commands.specs.declared.digest.DigestAlgorithm.{DigestAlgorithm}
use Rattle.suit_commands.specs.declared.digest.DigestAlgorithm.TheVariants.{Sha256, Sha384, Sha512}
use Rattle.suit_commands.specs.Digests.{hash_of, size_of, IsProperDigest}
use Rattle.manifest_judge.specs.Claims.{Matches}

-- ---- bytes

none_at : (i : ℕ) → get_or [] i 0 < 256
none_at i = omega arith

both_at : (a b : List ℕ) (i : ℕ) → IsBytes a → IsBytes b → (i < length a) ⊎ (length a ≤ i) → get_or (a ++ b) i 0 < 256
both_at a b i first second (inl h) = rw (get_or_append_left a b 0 i h) (first i)
both_at a b i first second (inr h) = rw (get_or-append_right a b (length a) i 0 refl h) (second (i - length a))

both : (a b : List ℕ) → IsBytes a → IsBytes b → IsBytes (a ++ b)
both a b first second = λ i. both_at a b i first second (cases_lt i (length a))

one_at : (b : ℕ) (bytes : List ℕ) (i : ℕ) → b < 256 → IsBytes bytes → get_or (b ∷ bytes) i 0 < 256
one_at b bytes zero low are = low
one_at b bytes (suc i) low are = are i

byte_low : (i n : ℕ) → byte_at i n < 256
byte_low zero n = omega arith
byte_low (suc i) n = omega arith

number_bytes : (k n : ℕ) → IsBytes (bytes_high_first k n)
number_bytes zero n = none_at
number_bytes (suc k) n = λ i. one_at (byte_at k n) (bytes_high_first k n) i (byte_low k n) (number_bytes k n)

bytes_256 : (h : List ℕ) (n : ℕ) → IsBytes (words_256 h n)
unfolding words_256
bytes_256 h zero = none_at
bytes_256 h (suc n) = both (words_256 h n) _ (bytes_256 h n) (number_bytes 4 _)

bytes_512 : (h : List ℕ) (n : ℕ) → IsBytes (words_512 h n)
unfolding words_512
bytes_512 h zero = none_at
bytes_512 h (suc n) = both (words_512 h n) _ (bytes_512 h n) (number_bytes 8 _)

-- ---- hashes

hash_bytes : (algorithm : DigestAlgorithm) (bytes : List ℕ) → IsBytes (hash_of algorithm bytes)
unfolding sha256 sha384 sha512
hash_bytes Sha256 bytes = bytes_256 _ 8
hash_bytes Sha384 bytes = IsBytes-take 48 _ (bytes_512 _ 8)
hash_bytes Sha512 bytes = bytes_512 _ 8

hash_size : (algorithm : DigestAlgorithm) (bytes : List ℕ) → length (hash_of algorithm bytes) ≡ size_of algorithm
hash_size Sha256 bytes = length-sha256 bytes
hash_size Sha384 bytes = length-sha384 bytes
hash_size Sha512 bytes = length-sha512 bytes

-- a digest that bytes have is one
pub matched_proper : (digest : Digest) (bytes : List ℕ) → Matches digest bytes → IsProperDigest digest
matched_proper digest bytes is = (subst IsBytes (sym is) (hash_bytes digest.algorithm bytes), ap (λ (b : List ℕ). length b) is ∙ hash_size digest.algorithm bytes)
