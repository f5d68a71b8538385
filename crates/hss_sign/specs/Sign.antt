-- Public keys and signatures, as functions of parameters, seed, leaf and message (RFC 8554, 4.5, 5.4 and 6).
use Rattle.std.specs.Prelude.{ℕ, ◌+◌, ◌/◌, ◌%◌, ◌^◌, ◌==◌, if◌then◌else◌, List, ◌++◌, map}
use Rattle.std.specs.List.{range_with_len}
use Rattle.lms_core.specs.declared.parameters.OtsParams.{OtsParams}
use Rattle.lms_core.specs.Bytes.{u32_bytes}
use Rattle.lms_core.specs.Chains.{chain}
use Rattle.lms_core.specs.Digits.{coef, signed_string}
use Rattle.lms_core.specs.OneTime.{message_hash}
use Rattle.lms_core.specs.Lms.{Signature, public_key_bytes, signature_bytes}
use Rattle.lms_core.specs.Tree.{path_above}
use Rattle.hss_sign.specs.declared.params.KeyParams.{KeyParams}
use Rattle.hss_sign.specs.declared.secrets.TreeSecret.{TreeSecret}
use Rattle.hss_sign.specs.Params.{lms_type, ots_params, ots_type}
use Rattle.hss_sign.specs.Secrets.{lower_secret, secret_at, top_secret}
use Rattle.hss_sign.specs.Trees.{leaf_at, tree_public}

-- y_i: chain i at leaf q, as many steps from its secret as digit i of the string says (RFC 8554, 4.5)
abbrev pub chain_to_digit : OtsParams → TreeSecret → ℕ → List ℕ → ℕ → List ℕ
chain_to_digit params tree q string i = chain tree.identifier q i 0 (coef string i params.w) (secret_at tree q i)

-- y_0, .., y_(p-1), which sign a digest (RFC 8554, 4.5)
unfoldable pub one_time_signature : OtsParams → TreeSecret → ℕ → List ℕ → List (List ℕ)
one_time_signature params tree q digest =
    map (chain_to_digit params tree q (signed_string digest params.w params.ls)) (range_with_len 0 params.p)

-- C: the randomizer at leaf q, from the number 0xfffd
abbrev pub randomizer : TreeSecret → ℕ → List ℕ
randomizer tree q = secret_at tree q 0xfffd

-- a tree's signature of a message at leaf q (RFC 8554, 5.4)
abbrev pub tree_signature : KeyParams → TreeSecret → ℕ → List ℕ → Signature
tree_signature params tree q message = record {
  leaf = q;
  ots_type = ots_type params;
  randomizer = randomizer tree q;
  chains = one_time_signature (ots_params params) tree q (message_hash tree.identifier q (randomizer tree q) message);
  lms_type = lms_type params;
  path = path_above tree.identifier (leaf_at params tree) 0 (2 ^ params.height + q) params.height;
}

-- the public key of a key: u32str(L) || pub[0] (RFC 8554, 6.1)
unfoldable pub public_of : KeyParams → List ℕ → List ℕ
public_of params seed = u32_bytes params.levels ++ public_key_bytes (tree_public params (top_secret seed))

-- the public key of the tree below leaf t of the top tree
abbrev pub lower_public : KeyParams → List ℕ → ℕ → List ℕ
lower_public params seed t = public_key_bytes (tree_public params (lower_secret (top_secret seed) t))

-- that key, signed by the top tree: signed_pub_key (RFC 8554, 6.2)
unfoldable pub signed_key : KeyParams → List ℕ → ℕ → List ℕ
signed_key params seed t =
    signature_bytes (tree_signature params (top_secret seed) t (lower_public params seed t)) ++ lower_public params seed t

-- the signature of a message at a leaf of the whole key, which with two levels is leaf n mod 2^h of the tree
-- below leaf n div 2^h of the top tree: u32str(Nspk) || signed_pub_key || sig (RFC 8554, 6.2)
unfoldable pub signature_of : KeyParams → List ℕ → ℕ → List ℕ → List ℕ
signature_of params seed n message =
    if params.levels == 1
    then u32_bytes 0 ++ signature_bytes (tree_signature params (top_secret seed) n message)
    else u32_bytes 1 ++ (signed_key params seed (n / 2 ^ params.height)
    ++ signature_bytes (tree_signature params (lower_secret (top_secret seed) (n / 2 ^ params.height)) (n % 2 ^ params.height) message))
