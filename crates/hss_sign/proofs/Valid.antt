-- What was signed verifies.
use Rattle.std.proofs.Common.{◌≡◌, ℕ, zero, suc, ◌+◌, ◌-◌, ◌*◌, ◌/◌, ◌%◌, ◌^◌, ◌<◌, ◌≤◌, ◌⊎◌, inl, inr, List, [], ◌∷◌, ◌++◌, Some, length, get_or, refl, sym, ap, ◌∙◌, arith}
use Rattle.std.specs.Prelude.{map, take, slice_index_or, ◌==◌, if◌then◌else◌}
use Rattle.std.specs.List.{concat, range_with_len}
use Rattle.std.proofs.lemmas.List.{append-nil, append_assoc, length-take-le}
use Rattle.std.proofs.lemmas.List.FromFn.{fill_by_all, get_or-map-range_with_len, length-map-range_with_len}
use Rattle.sha2.specs.Sha256.{sha256}
use Rattle.sha2.proofs.Facts256.{length-sha256}
use Rattle.lms_core.specs.declared.parameters.OtsParams.{OtsParams}
use Rattle.lms_core.specs.Bytes.{u32_bytes}
use Rattle.lms_core.specs.Chains.{chain}
use Rattle.lms_core.specs.Digits.{coef, signed_string}
use Rattle.lms_core.specs.OneTime.{chain_end, key_candidate, key_hash, message_hash}
use Rattle.lms_core.specs.Parameters.{lms_table, ots_table, width_4, width_8}
use Rattle.lms_core.specs.Lms.{AllHashes, Fits, IsKnown, LmsValid, public_key_bytes, root_candidate, signature_bytes}
use Rattle.lms_core.specs.Tree.{leaf_hash, path_above, root_above, tree_node}
use Rattle.lms_core.proofs.Public.Chains.{chain_ends, coef_at_most}
use Rattle.lms_core.proofs.Public.Trees.{path_leads_to_root}
use Rattle.hss_verify.specs.Hss.{HssValid, IsHssPublic}
use Rattle.hss_sign.specs.declared.params.KeyParams.{KeyParams}
use Rattle.hss_sign.specs.declared.secrets.TreeSecret.{TreeSecret}
use Rattle.hss_sign.specs.Params.{IsProperParams, capacity, ots_params}
use Rattle.hss_sign.specs.Secrets.{lower_secret, secret_at, top_secret}
use Rattle.hss_sign.specs.Trees.{end_of_chain, leaf_at, one_time_public, tree_public}
use Rattle.hss_sign.specs.Sign.{chain_to_digit, lower_public, one_time_signature, public_of, randomizer, signature_of, signed_key, tree_signature}

-- ---- lengths

hash_size : (bytes : List ℕ) → length (sha256 bytes) ≡ 32
hash_size bytes = length-sha256 bytes

front_size : (bytes : List ℕ) → length (take 16 (sha256 bytes)) ≡ 16
front_size bytes = length-take-le 16 (sha256 bytes) (omega (arith, hash_size bytes))

chain_size : (identifier : List ℕ) (q i a n : ℕ) (start : List ℕ) → length start ≡ 32 → length (chain identifier q i a n start) ≡ 32
unfolding chain
chain_size identifier q i a zero start size = size
chain_size identifier q i a (suc n) start size = hash_size _

node_size : (params : KeyParams) (tree : TreeSecret) (level node : ℕ) → length (tree_node tree.identifier (leaf_at params tree) level node) ≡ 32
unfolding tree_node
node_size params tree zero node = hash_size _
node_size params tree (suc level) node = hash_size _

all_hashes : (f : ℕ → List ℕ) → ((i : ℕ) → length (f i) ≡ 32) → (a n : ℕ) → AllHashes (map f (range_with_len a n))
all_hashes f each a zero = tt
all_hashes f each a (suc n) = (each a, all_hashes f each (a + 1) n)

path_size : (identifier : List ℕ) (leaf : ℕ → List ℕ) (level node up : ℕ) → length (path_above identifier leaf level node up) ≡ up
unfolding path_above
path_size identifier leaf level node zero = refl
path_size identifier leaf level node (suc up) = ap suc (path_size identifier leaf (suc level) (node / 2) up)

path_hashes : (params : KeyParams) (tree : TreeSecret) (level node up : ℕ) → AllHashes (path_above tree.identifier (leaf_at params tree) level node up)
unfolding path_above
path_hashes params tree level node zero = tt
path_hashes params tree level node (suc up) = (node_size params tree level _, path_hashes params tree (suc level) (node / 2) up)

-- ---- a tree's key

known_height : (h : ℕ) → (h ≡ 5) ⊎ (h ≡ 10) → lms_table (if h == 5 then 5 else 6) ≡ Some h
known_height h (inl e) = rw e refl
known_height h (inr e) = rw e refl

known_width : (w : ℕ) → (w ≡ 4) ⊎ (w ≡ 8) → ots_table (if w == 4 then 3 else 4) ≡ Some (if w == 4 then width_4 else width_8)
known_width w (inl e) = rw e refl
known_width w (inr e) = rw e refl

pub known : (params : KeyParams) (tree : TreeSecret) → IsProperParams params → length tree.identifier ≡ 16 → IsKnown (tree_public params tree)
known params tree proper size = record {
  lms_known = known_height params.height proper.height;
  ots_known = known_width params.width proper.width;
  identifier_length = size;
  root_length = node_size params tree params.height 1;
}

-- ---- a tree's signature

-- the chains that were signed end where those of the public key end
candidate_is : (params : OtsParams) (tree : TreeSecret) (q : ℕ) (digest : List ℕ) → key_candidate tree.identifier q params digest (one_time_signature params tree q digest) ≡ one_time_public params tree q
unfolding key_candidate one_time_public one_time_signature
candidate_is params tree q digest =
    let string = signed_string digest params.w params.ls in
    let signed = chain_to_digit params tree q string in
    let ys = map signed (range_with_len 0 params.p) in
    let ended : ℕ → List ℕ = λ i. chain_end tree.identifier q params.w string i (slice_index_or ys i []) in
    let ends = map (end_of_chain params tree q) (range_with_len 0 params.p) in
    let each : (i : ℕ) → i < params.p → get_or ends i [] ≡ ended i = λ i h.
    get_or-map-range_with_len (end_of_chain params tree q) 0 params.p i i [] h (omega arith)
    ∙ sym (chain_ends tree.identifier q i (coef string i params.w) (2 ^ params.w - 1) (secret_at tree q i) (coef_at_most string i params.w))
    ∙ ap (chain_end tree.identifier q params.w string i) (sym (get_or-map-range_with_len signed 0 params.p i i [] h (omega arith))) in
    ap (λ (x : List (List ℕ)). key_hash tree.identifier q (concat x)) (sym (fill_by_all ended ends params.p [] (length-map-range_with_len (end_of_chain params tree q) 0 params.p) each))

leaf_is : (identifier : List ℕ) (leaf : ℕ → List ℕ) (node : ℕ) → leaf node ≡ tree_node identifier leaf 0 node
unfolding tree_node
leaf_is identifier leaf node = refl

root_of : (params : KeyParams) (tree : TreeSecret) (q : ℕ) (message : List ℕ) → q < 2 ^ params.height
    → root_candidate (tree_public params tree) message (tree_signature params tree q message) ≡ tree_node tree.identifier (leaf_at params tree) params.height 1
unfolding root_candidate
root_of params tree q message inside =
    let h = params.height in
    let node = 2 ^ h + q in
    let leaf = leaf_at params tree in
    let path = path_above tree.identifier leaf 0 node h in
    let place : q ≡ node - 2 ^ h = omega arith in
    let key = candidate_is (ots_params params) tree q (message_hash tree.identifier q (randomizer tree q) message) ∙ ap (one_time_public (ots_params params) tree) place in
    ap (λ (k : List ℕ). root_above tree.identifier node (leaf_hash tree.identifier node k) path) key
    ∙ ap (λ (x : List ℕ). root_above tree.identifier node x path) (leaf_is tree.identifier leaf node)
    ∙ path_leads_to_root tree.identifier leaf 0 node h (omega arith) (omega (arith, inside))
    ∙ ap (λ (n : ℕ). tree_node tree.identifier leaf n 1) (omega arith)

fits : (params : KeyParams) (tree : TreeSecret) (q : ℕ) (message : List ℕ) → q < 2 ^ params.height → Fits (tree_signature params tree q message) (tree_public params tree)
unfolding one_time_signature
fits params tree q message inside = record {
  same_ots_type = refl;
  same_lms_type = refl;
  leaf_below = inside;
  randomizer_length = hash_size _;
  chain_count = length-map-range_with_len _ 0 (ots_params params).p;
  chain_lengths = all_hashes _ (λ i. chain_size tree.identifier q i 0 _ (secret_at tree q i) (hash_size _)) 0 (ots_params params).p;
  path_length = path_size tree.identifier (leaf_at params tree) 0 (2 ^ params.height + q) params.height;
  node_lengths = path_hashes params tree 0 (2 ^ params.height + q) params.height;
}

pub tree_signs : (params : KeyParams) (tree : TreeSecret) (q : ℕ) (message : List ℕ) → IsProperParams params → length tree.identifier ≡ 16 → q < 2 ^ params.height
    → LmsValid (public_key_bytes (tree_public params tree)) message (signature_bytes (tree_signature params tree q message))
tree_signs params tree q message proper size inside = record {
  key = tree_public params tree;
  public_key = record { known = known params tree proper size; spelled = refl };
  parts = tree_signature params tree q message;
  fits = fits params tree q message inside;
  spelled = refl;
  root = root_of params tree q message inside;
}

-- ---- the whole key

some_levels : (n : ℕ) → (n ≡ 1) ⊎ (n ≡ 2) → (1 ≤ n) × (n ≤ 8)
some_levels n (inl e) = (omega (arith, e), omega (arith, e))
some_levels n (inr e) = (omega (arith, e), omega (arith, e))

pub is_public : (params : KeyParams) (seed : List ℕ) → IsProperParams params → IsHssPublic (public_of params seed)
unfolding public_of
is_public params seed proper =
    let levels = some_levels params.levels proper.levels in
    record {
      levels = params.levels;
      top = public_key_bytes (tree_public params (top_secret seed));
      at_least_one = levels.0;
      at_most_eight = levels.1;
      known = (tree_public params (top_secret seed), record { known = known params (top_secret seed) proper (front_size _); spelled = refl });
      spelled = refl;
    }

split_by : (h n : ℕ) → (h ≡ 5) ⊎ (h ≡ 10) → n < 2 ^ (2 * h) → (n / 2 ^ h < 2 ^ h) × (n % 2 ^ h < 2 ^ h)
split_by h n (inl e) inside = let k : n < 2 ^ 10 = rw e at inside in rw e (omega (arith, k), omega (arith, k))
split_by h n (inr e) inside = let k : n < 2 ^ 20 = rw e at inside in rw e (omega (arith, k), omega (arith, k))

-- the leaves of the two trees of a leaf of the whole key
pub split : (params : KeyParams) (n : ℕ) → IsProperParams params → params.levels ≡ 2 → n < capacity params → (n / 2 ^ params.height < 2 ^ params.height) × (n % 2 ^ params.height < 2 ^ params.height)
split params n proper two inside = split_by params.height n proper.height (rw two at inside)

-- with one level it is a leaf of the tree
pub alone : (params : KeyParams) (n : ℕ) → params.levels ≡ 1 → n < capacity params → n < 2 ^ params.height
alone params n one inside =
    let k : n < 2 ^ (1 * params.height) = rw one at inside in
    let same : 2 ^ (1 * params.height) ≡ 2 ^ params.height = ap (λ (m : ℕ). 2 ^ m) (omega arith) in
    omega (arith, k, same)

valid_by : (params : KeyParams) (seed : List ℕ) (n : ℕ) (message : List ℕ) → IsProperParams params → n < capacity params → (params.levels ≡ 1) ⊎ (params.levels ≡ 2)
    → HssValid (public_of params seed) message (signature_of params seed n message)
unfolding signature_of signed_key is_public
valid_by params seed n message proper inside (inl one) = record {
  public_key = is_public params seed proper;
  links = [];
  last = signature_bytes (tree_signature params (top_secret seed) n message);
  link_count = sym one;
  spelled = rw one refl;
  signed = tree_signs params (top_secret seed) n message proper (front_size _) (alone params n one inside);
}
valid_by params seed n message proper inside (inr two) =
    let t = n / 2 ^ params.height in
    let q = n % 2 ^ params.height in
    let below = split params n proper two inside in
    let lower = lower_secret (top_secret seed) t in
    let signed = signature_bytes (tree_signature params (top_secret seed) t (lower_public params seed t)) ++ lower_public params seed t in
    let last = signature_bytes (tree_signature params lower q message) in
    record {
      public_key = is_public params seed proper;
      links = record { signature = signature_bytes (tree_signature params (top_secret seed) t (lower_public params seed t)); key = lower_public params seed t } ∷ [];
      last = signature_bytes (tree_signature params lower q message);
      link_count = sym two;
      spelled = rw two (sym (ap (λ (x : List ℕ). u32_bytes 1 ++ x ++ last) (append-nil signed) ∙ append_assoc (u32_bytes 1) signed last));
      signed = (tree_signs params (top_secret seed) t (lower_public params seed t) proper (front_size _) below.0, tree_signs params lower q message proper (front_size _) below.1);
    }

-- the law of the signer
pub valid : (params : KeyParams) (seed : List ℕ) (n : ℕ) (message : List ℕ) → IsProperParams params → n < capacity params → HssValid (public_of params seed) message (signature_of params seed n message)
valid params seed n message proper inside = valid_by params seed n message proper inside proper.levels
