-- A signature of a key is bytes, and few.
use Rattle.std.proofs.Common.{◌≡◌, ◌⊎◌, ℕ, zero, suc, ◌+◌, ◌*◌, ◌/◌, ◌%◌, ◌^◌, ◌≤◌, List, length, inl, inr, refl, ap, arith}
use Rattle.std.specs.Prelude.{map}
use Rattle.std.specs.List.{AllByRecursion, range_with_len}
use Rattle.std.proofs.lemmas.List.FromFn.{length-map-range_with_len}
use Rattle.sha2.specs.Sha256.{digest_bytes, sha256}
use Rattle.lms_core.specs.declared.parameters.OtsParams.{OtsParams}
use Rattle.lms_core.specs.Chains.{chain}
use Rattle.lms_core.specs.Lms.{Signature, public_key_bytes, signature_bytes}
use Rattle.lms_core.specs.Tree.{path_above, tree_node}
use Rattle.hss_sign.specs.declared.params.KeyParams.{KeyParams}
use Rattle.hss_sign.specs.declared.secrets.TreeSecret.{TreeSecret}
use Rattle.hss_sign.specs.Params.{IsProperParams, ots_params}
use Rattle.hss_sign.specs.Secrets.{lower_secret, secret_at, top_secret}
use Rattle.hss_sign.specs.Trees.{leaf_at, tree_public}
use Rattle.hss_sign.specs.Sign.{lower_public, one_time_signature, signature_of, signed_key, tree_signature}
use Rattle.agent_core.proofs.Short.{IsShort, none, both, wider, front, all, four}

-- ---- what is hashed

digest : (h : List ℕ) (n : ℕ) → IsShort (4 * n) (digest_bytes h n)
unfolding digest_bytes
digest h zero = none
digest h (suc n) = wider (4 * suc n) (omega arith) (both (digest h n) (four _))

hash : (m : List ℕ) → IsShort 32 (sha256 m)
unfolding sha256
hash m = digest _ 8

-- ---- the pieces of a tree's signature

chain_short : (identifier : List ℕ) (q i a n : ℕ) (start : List ℕ) → IsShort 32 start → IsShort 32 (chain identifier q i a n start)
unfolding chain
chain_short identifier q i a zero start short = short
chain_short identifier q i a (suc n) start short = hash _

node_short : (params : KeyParams) (tree : TreeSecret) (level node : ℕ) → IsShort 32 (tree_node tree.identifier (leaf_at params tree) level node)
unfolding tree_node
node_short params tree zero node = hash _
node_short params tree (suc level) node = hash _

path_size : (identifier : List ℕ) (leaf : ℕ → List ℕ) (level node up : ℕ) → length (path_above identifier leaf level node up) ≡ up
unfolding path_above
path_size identifier leaf level node zero = refl
path_size identifier leaf level node (suc up) = ap suc (path_size identifier leaf (suc level) (node / 2) up)

path_short : (params : KeyParams) (tree : TreeSecret) (level node up : ℕ) → AllByRecursion (IsShort 32) (path_above tree.identifier (leaf_at params tree) level node up)
unfolding path_above
path_short params tree level node zero = tt
path_short params tree level node (suc up) = (node_short params tree level _, path_short params tree (suc level) (node / 2) up)

each_short : (f : ℕ → List ℕ) → ((i : ℕ) → IsShort 32 (f i)) → (a n : ℕ) → AllByRecursion (IsShort 32) (map f (range_with_len a n))
each_short f each a zero = tt
each_short f each a (suc n) = (each a, each_short f each (a + 1) n)

chains_short : (params : OtsParams) (tree : TreeSecret) (q : ℕ) (hashed : List ℕ) → AllByRecursion (IsShort 32) (one_time_signature params tree q hashed)
unfolding one_time_signature
chains_short params tree q hashed = each_short _ (λ i. chain_short tree.identifier q i 0 _ (secret_at tree q i) (hash _)) 0 params.p

chains_size : (params : OtsParams) (tree : TreeSecret) (q : ℕ) (hashed : List ℕ) → length (one_time_signature params tree q hashed) ≡ params.p
unfolding one_time_signature
chains_size params tree q hashed = length-map-range_with_len _ 0 params.p

-- a signature of so many chains and nodes
parts_short : (parts : Signature) (p h : ℕ) → IsShort 32 parts.randomizer → AllByRecursion (IsShort 32) parts.chains → length parts.chains ≡ p
    → AllByRecursion (IsShort 32) parts.path → length parts.path ≡ h
    → p ≤ 67 → h ≤ 10 → IsShort 4096 (signature_bytes parts)
parts_short parts p h randomizer chains count path nodes few low =
    let chains_are : IsShort 2144 _ = wider 2144 (omega (arith, count, few)) (all parts.chains chains) in
    let path_is : IsShort 320 _ = wider 320 (omega (arith, nodes, low)) (all parts.path path) in
    wider 4096 (omega arith) (both (both (both (four parts.leaf) (both (both (four parts.ots_type) randomizer) chains_are)) (four parts.lms_type)) path_is)

few_chains : (params : KeyParams) → IsProperParams params → (params.width ≡ 4) ⊎ (params.width ≡ 8) → (ots_params params).p ≤ 67
few_chains params proper (inl e) = rw e (omega arith)
few_chains params proper (inr e) = rw e (omega arith)

low_tree : (h : ℕ) → (h ≡ 5) ⊎ (h ≡ 10) → h ≤ 10
low_tree h (inl e) = omega (arith, e)
low_tree h (inr e) = omega (arith, e)

tree_short : (params : KeyParams) (tree : TreeSecret) (q : ℕ) (message : List ℕ) → IsProperParams params
    → IsShort 4096 (signature_bytes (tree_signature params tree q message))
tree_short params tree q message proper = parts_short (tree_signature params tree q message) (ots_params params).p params.height (hash _)
    (chains_short (ots_params params) tree q _) (chains_size (ots_params params) tree q _)
    (path_short params tree 0 (2 ^ params.height + q) params.height) (path_size tree.identifier (leaf_at params tree) 0 (2 ^ params.height + q) params.height)
    (few_chains params proper proper.width) (low_tree params.height proper.height)

-- ---- the whole key

public_short : (params : KeyParams) (tree : TreeSecret) → IsShort 16 tree.identifier → IsShort 56 (public_key_bytes (tree_public params tree))
public_short params tree identifier = both (both (both (four _) (four _)) identifier) (node_short params tree params.height 1)

signed_short : (params : KeyParams) (seed : List ℕ) (t : ℕ) → IsProperParams params → IsShort 4152 (signed_key params seed t)
unfolding signed_key
signed_short params seed t proper =
    both (tree_short params (top_secret seed) t (lower_public params seed t) proper) (public_short params (lower_secret (top_secret seed) t) (front 16 (hash _)))

by_levels : (params : KeyParams) (seed : List ℕ) (n : ℕ) (message : List ℕ) → IsProperParams params → (params.levels ≡ 1) ⊎ (params.levels ≡ 2)
    → IsShort 16384 (signature_of params seed n message)
unfolding signature_of signed_key
by_levels params seed n message proper (inl one) = rw one (wider 16384 (omega arith) (both (four 0) (tree_short params (top_secret seed) n message proper)))
by_levels params seed n message proper (inr two) = rw two (wider 16384 (omega arith)
    (both (four 1) (both (signed_short params seed (n / 2 ^ params.height) proper)
    (tree_short params (lower_secret (top_secret seed) (n / 2 ^ params.height)) (n % 2 ^ params.height) message proper))))

-- what a key signs with, at each leaf, is bytes, and at most 2^14
pub signature_short : (params : KeyParams) (seed : List ℕ) (n : ℕ) (message : List ℕ) → IsProperParams params → IsShort 16384 (signature_of params seed n message)
signature_short params seed n message proper = by_levels params seed n message proper proper.levels
