-- Digests that are written are read again, and the other way round.
use Rattle.std.proofs.Common.{◌≡◌, ℕ, Bool, true, false, cond, List, [], ◌∷◌, length, Some, None, refl, ap, ◌∙◌, arith}
use Rattle.std.specs.Prelude.{◌==◌, ◌≤◌, Ok}
use Rattle.std.proofs.lemmas.Bool.{eqb-true}
use Rattle.base_types.specs.Bytes.{IsBytes}
use Rattle.cbor_core.specs.declared.item.Item.{Item}
use Rattle.cbor_core.specs.declared.item.Item.TheOpen.{Item-F}
use Rattle.cbor_core.specs.declared.item.Item.TheVariants as i
use Rattle.cbor_core.specs.declared.item.Item.TheViews.{roll-Item}
use Rattle.cbor_core.specs.declared.item.Pair.{Pair}
use Rattle.cbor_core.proofs.Public.Views.{by_layer}
use Rattle.cbor_fields.specs.declared.fault.FormFault.TheVariants.{Shape, NoMemory}
use Rattle.item_codec.specs.Part.{Any, Part, Exact}
use Rattle.item_codec.specs.Fields.{shaped, sized, in_array, IsWithin}
use Rattle.item_codec.specs.Wrapped.{wrap}
use Rattle.item_codec.proofs.Public.Forms.{shaped_part, sized_part, part_exact}
use Rattle.item_codec.proofs.Public.Arrays.{Makes, part_makes, all_made, none_made, part_seen, array_part}
use Rattle.item_codec.proofs.Public.Wraps.{wrapped_part}
use Rattle.suit_commands.specs.declared.digest.Digest.{Digest}
use Rattle.suit_commands.specs.declared.digest.DigestAlgorithm.{DigestAlgorithm}
use Rattle.suit_commands.specs.declared.digest.DigestAlgorithm.TheVariants.{Sha256, Sha384, Sha512}
use Rattle.suit_commands.specs.Digests.{algorithm_numbered, algorithm_by, algorithm_of, size_of, digest_in, digest_of, wrapped_digest_of, number_of, algorithm_item, digest_members, digest_item, IsProperDigest, IsWrappableDigest}
use Rattle.suit_commands.specs.Law.{DigestsAreCodec}

told : Shape ≡ NoMemory → ⊥
told e = cc

-- ---- hash functions

number_is : (n : ℕ) (algorithm : DigestAlgorithm) → algorithm_numbered n ≡ Some algorithm → n ≡ number_of algorithm
number_is n algorithm e = by_tests (n == 15) (n == 42) (n == 43) refl refl refl e where
  by_tests : (a b c : Bool) → (n == 15) ≡ a → (n == 42) ≡ b → (n == 43) ≡ c → cond a (Some Sha256) (cond b (Some Sha384) (cond c (Some Sha512) None)) ≡ Some algorithm → n ≡ number_of algorithm
  by_tests true b c at _ _ h = let same : Sha256 ≡ algorithm = cc in eqb-true n 15 at ∙ ap number_of same
  by_tests false true c _ at _ h = let same : Sha384 ≡ algorithm = cc in eqb-true n 42 at ∙ ap number_of same
  by_tests false false true _ _ at h = let same : Sha512 ≡ algorithm = cc in eqb-true n 43 at ∙ ap number_of same
  by_tests false false false _ _ _ h = absurd cc

algorithm_rolled : (l : Item-F Item Pair) (algorithm : DigestAlgorithm) → algorithm_by l ≡ Some algorithm → roll-Item l ≡ algorithm_item algorithm
algorithm_rolled (Item-F.Negative n) algorithm e = i.rolls-Negative n ∙ ap (λ (k : ℕ). i.Negative k) (number_is n algorithm e)
algorithm_rolled _ algorithm e = absurd cc

number_again : (algorithm : DigestAlgorithm) → algorithm_numbered (number_of algorithm) ≡ Some algorithm
number_again Sha256 = refl
number_again Sha384 = refl
number_again Sha512 = refl

algorithm_exact : Exact algorithm_of algorithm_item Any
algorithm_exact = record {
  fixes = λ x algorithm s e. by_layer algorithm_by algorithm_item algorithm_rolled x algorithm e;
  proper = λ _ _ _ _. tt;
  seen = λ algorithm _. rw i.outs-Negative (number_again algorithm);
}

algorithm_part : Part NoMemory (shaped Shape algorithm_of) algorithm_item Any
algorithm_part = shaped_part NoMemory Shape told algorithm_exact

bytes_part : (n : ℕ) → Part NoMemory (sized n n Shape Shape) (λ b. i.Bytes b) (IsWithin n n)
bytes_part n = sized_part NoMemory n n Shape Shape told told

-- ---- digests

size_is : (n m : ℕ) → (n ≤ m) × (m ≤ n) → m ≡ n
size_is n m is = let low : n ≤ m = is.0 in let high : m ≤ n = is.1 in omega arith

sized_bytes : (n : ℕ) (bytes : List ℕ) → IsBytes bytes → length bytes ≡ n → IsWithin n n bytes
sized_bytes n bytes are is = (are, omega arith, omega arith)

digest_makes : (xs : List Item) → Makes NoMemory digest_members (digest_in xs) xs IsProperDigest
digest_makes (a ∷ b ∷ []) =
    part_makes algorithm_part a digest_members _ (λ x. x ∷ b ∷ []) (λ all. all.0) (λ algorithm.
    part_makes (bytes_part (size_of algorithm)) b digest_members _ (λ x. _ ∷ x ∷ []) (λ all. all.1.0) (λ bytes.
    all_made NoMemory digest_members _ _ refl (λ size _. (size.0, size_is (size_of algorithm) (length bytes) (size.1, size.2)))))
digest_makes xs = none_made NoMemory digest_members Shape xs told

digest_seen : (v : Digest) → IsProperDigest v → digest_in (digest_members v) ≡ Ok v
digest_seen v is =
    part_seen algorithm_part v.algorithm _ _ tt (
    part_seen (bytes_part (size_of v.algorithm)) v.bytes _ _ (sized_bytes (size_of v.algorithm) v.bytes is.0 is.1) refl)

-- an array [alg, bytes] as a part with the fault of forms
pub digest_part : Part NoMemory (in_array Shape digest_in) digest_item IsProperDigest
digest_part = array_part NoMemory Shape digest_in digest_members IsProperDigest told digest_makes digest_seen

-- and as a form
pub digest_exact : Exact digest_of digest_item IsProperDigest
digest_exact = part_exact digest_part

-- a byte string that wraps one, as a form
pub wrapped_digest_exact : Exact wrapped_digest_of (wrap digest_item) IsWrappableDigest
wrapped_digest_exact = part_exact (wrapped_part digest_part Shape told)

pub digests_are_codec : DigestsAreCodec
digests_are_codec = record { alone = digest_exact; wrapped = wrapped_digest_exact }
