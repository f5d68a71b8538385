-- The trees of a key, from their leaves (RFC 8554, 5.3).
use Rattle.std.specs.Prelude.{◌≡◌, ℕ, ◌+◌, ◌-◌, ◌*◌, ◌^◌, ◌<◌, ◌≤◌, List, [], length, map, slice_index_or}
use Rattle.std.specs.List.{concat, range_with_len}
use Rattle.lms_core.specs.declared.parameters.OtsParams.{OtsParams}
use Rattle.lms_core.specs.Chains.{chain}
use Rattle.lms_core.specs.OneTime.{key_hash}
use Rattle.lms_core.specs.Lms.{LmsKey}
use Rattle.lms_core.specs.Tree.{inner_hash, leaf_hash, tree_node}
use Rattle.hss_sign.specs.declared.params.KeyParams.{KeyParams}
use Rattle.hss_sign.specs.declared.secrets.TreeSecret.{TreeSecret}
use Rattle.hss_sign.specs.Params.{lms_type, ots_params, ots_type}
use Rattle.hss_sign.specs.Secrets.{secret_at}

-- z_i: the end of chain i at leaf q, the largest digit's number of steps from its secret (RFC 8554, 4.3)
abbrev pub end_of_chain : OtsParams → TreeSecret → ℕ → ℕ → List ℕ
end_of_chain params tree q i = chain tree.identifier q i 0 (2 ^ params.w - 1) (secret_at tree q i)

-- K: the public key of the one-time key at leaf q (RFC 8554, 4.3)
unfoldable pub one_time_public : OtsParams → TreeSecret → ℕ → List ℕ
one_time_public params tree q =
    key_hash tree.identifier q (concat (map (end_of_chain params tree q) (range_with_len 0 params.p)))

-- the leaf at a node's number, which is 2^h more than the leaf's (RFC 8554, 5.3)
abbrev pub leaf_at : KeyParams → TreeSecret → ℕ → List ℕ
leaf_at params tree node =
    leaf_hash tree.identifier node (one_time_public (ots_params params) tree (node - 2 ^ params.height))

-- the public key of a tree: its types, I and T[1] (RFC 8554, 5.3)
abbrev pub tree_public : KeyParams → TreeSecret → LmsKey
tree_public params tree = record {
  lms_type = lms_type params;
  ots_type = ots_type params;
  height = params.height;
  params = ots_params params;
  identifier = tree.identifier;
  root = tree_node tree.identifier (leaf_at params tree) params.height 1;
}

-- the list holds each node of a tree at its number: the leaves, and above them hashes of two nodes
pub record IsGrown (params : KeyParams) (tree : TreeSecret) (nodes : List (List ℕ)) : Type 0 where
  pub size : length nodes ≡ 2 * 2 ^ params.height
  pub leaves : (i : ℕ) → i < 2 ^ params.height → slice_index_or nodes (2 ^ params.height + i) [] ≡ leaf_at params tree (2 ^ params.height + i)
  pub inner : (r : ℕ) → 1 ≤ r → r < 2 ^ params.height
      → slice_index_or nodes r [] ≡ inner_hash tree.identifier r (slice_index_or nodes (2 * r) []) (slice_index_or nodes (2 * r + 1) [])
