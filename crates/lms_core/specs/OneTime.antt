-- One-time signatures, LM-OTS (RFC 8554, 4).
use Rattle.std.specs.Prelude.{ℕ, ◌-◌, ◌^◌, List, [], ◌∷◌, ◌++◌, map, slice_index_or}
use Rattle.std.specs.List.{concat, range_with_len}
use Rattle.sha2.specs.Sha256.{sha256}
use Rattle.lms_core.specs.declared.parameters.OtsParams.{OtsParams}
use Rattle.lms_core.specs.Bytes.{u32_bytes}
use Rattle.lms_core.specs.Digits.{coef, signed_string}
use Rattle.lms_core.specs.Chains.{chain}

-- D_MESG and D_PBLC (RFC 8554, 7.1)
abbrev pub message_domain : List ℕ
message_domain = 0x81 ∷ 0x81 ∷ []

-- D_PBLC (RFC 8554, 7.1)
abbrev pub public_key_domain : List ℕ
public_key_domain = 0x80 ∷ 0x80 ∷ []

-- Q: H(I || u32str(q) || D_MESG || C || message) (RFC 8554, 4.5)
abbrev pub message_hash : List ℕ → ℕ → List ℕ → List ℕ → List ℕ
message_hash identifier q randomizer message =
    sha256 (identifier ++ u32_bytes q ++ message_domain ++ randomizer ++ message)

-- z_i: the end of chain i, from y_i at digit i of what is signed (RFC 8554, 4.6, algorithm 4b)
abbrev pub chain_end : List ℕ → ℕ → ℕ → List ℕ → ℕ → List ℕ → List ℕ
chain_end identifier q w string i y =
    let digit = coef string i w in
    chain identifier q i digit (2 ^ w - 1 - digit) y

-- K: the public key of a one-time key whose chains end with z_0, .., z_(p-1), here joined:
-- H(I || u32str(q) || D_PBLC || z_0 || .. || z_(p-1)) (RFC 8554, 4.3)
abbrev pub key_hash : List ℕ → ℕ → List ℕ → List ℕ
key_hash identifier q ends = sha256 (identifier ++ u32_bytes q ++ public_key_domain ++ ends)

-- Kc: the public key of the one-time key for which y_0, .., y_(p-1) sign the digest,
-- the hash of the chains' ends (RFC 8554, 4.6, algorithm 4b)
unfoldable pub key_candidate : List ℕ → ℕ → OtsParams → List ℕ → List (List ℕ) → List ℕ
key_candidate identifier q params digest ys =
    let string = signed_string digest params.w params.ls in
    key_hash identifier q
    (concat (map (λ i. chain_end identifier q params.w string i (slice_index_or ys i [])) (range_with_len 0 params.p)))
