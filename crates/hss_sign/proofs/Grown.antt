-- A list of all nodes of a tree holds what the recursion gives.
use Rattle.std.proofs.Common.{◌≡◌, ℕ, zero, suc, ◌+◌, ◌-◌, ◌*◌, ◌/◌, ◌%◌, ◌^◌, ◌<◌, ◌≤◌, ◌⊎◌, inl, inr, List, [], ◌++◌, refl, subst, ap, ◌∙◌, arith}
use Rattle.std.specs.Prelude.{slice_index_or}
use Rattle.std.specs.List.{concat}
use Rattle.lms_core.specs.Tree.{inner_hash, path_above, sibling, tree_node}
use Rattle.hss_sign.specs.declared.params.KeyParams.{KeyParams}
use Rattle.hss_sign.specs.declared.secrets.TreeSecret.{TreeSecret}
use Rattle.hss_sign.specs.Trees.{IsGrown, leaf_at}

power_more : (a b : ℕ) → 2 ^ a ≤ 2 ^ (b + a)
power_more a zero = let same : 2 ^ (0 + a) ≡ 2 ^ a = ap (λ (n : ℕ). 2 ^ n) (omega arith) in omega (arith, same)
power_more a (suc b) =
    let less = power_more a b in
    let place : suc b + a ≡ suc (b + a) = omega arith in
    let same : 2 ^ (suc b + a) ≡ 2 ^ suc (b + a) = ap (λ (n : ℕ). 2 ^ n) place in
    let doubled : 2 ^ suc (b + a) ≡ 2 * 2 ^ (b + a) = omega arith in
    omega (arith, less, same, doubled)

power_some : (a : ℕ) → 1 ≤ 2 ^ a
power_some zero = omega arith
power_some (suc a) = let some = power_some a in omega (arith, some)

-- each node at its number
pub node_is : (params : KeyParams) (tree : TreeSecret) (nodes : List (List ℕ)) → IsGrown params tree nodes → (level up node : ℕ) → level + up ≡ params.height → 2 ^ up ≤ node → node < 2 ^ suc up
    → slice_index_or nodes node [] ≡ tree_node tree.identifier (leaf_at params tree) level node
unfolding tree_node
node_is params tree nodes grown zero up node top low high =
    let same : up ≡ params.height = omega (arith, top) in
    let full : 2 ^ up ≡ 2 ^ params.height = ap (λ (n : ℕ). 2 ^ n) same in
    let place : 2 ^ params.height + (node - 2 ^ params.height) ≡ node = omega (arith, full, low) in
    let inside : node - 2 ^ params.height < 2 ^ params.height = omega (arith, full, low, high) in
    let P : ℕ → Type 0 = λ n. slice_index_or nodes n [] ≡ leaf_at params tree n in
    subst P place (grown.leaves (node - 2 ^ params.height) inside)
node_is params tree nodes grown (suc level) up node top low high =
    let some = power_some up in
    let count : level + suc up ≡ params.height = omega (arith, top) in
    let more = power_more (suc up) level in
    let full : 2 ^ (level + suc up) ≡ 2 ^ params.height = ap (λ (n : ℕ). 2 ^ n) count in
    let inside : node < 2 ^ params.height = omega (arith, more, full, high) in
    let left = node_is params tree nodes grown level (suc up) (2 * node) count (omega (arith, low)) (omega (arith, high)) in
    let right = node_is params tree nodes grown level (suc up) (2 * node + 1) count (omega (arith, low)) (omega (arith, high)) in
    grown.inner node (omega (arith, some, low)) inside ∙ (λ i. inner_hash tree.identifier node (left i) (right i))

-- the root
pub root_is : (params : KeyParams) (tree : TreeSecret) (nodes : List (List ℕ)) → IsGrown params tree nodes → slice_index_or nodes 1 [] ≡ tree_node tree.identifier (leaf_at params tree) params.height 1
root_is params tree nodes grown = node_is params tree nodes grown params.height 0 1 (omega arith) (omega arith) (omega arith)

sibling_by : (up node : ℕ) → (node % 2 ≡ 1) ⊎ (node % 2 ≡ 0) → 2 ^ suc up ≤ node → node < 2 ^ suc (suc up) → (2 ^ suc up ≤ sibling node) × (sibling node < 2 ^ suc (suc up))
sibling_by up node (inl odd) low high = rw odd (omega (arith, odd, low), omega (arith, odd, high))
sibling_by up node (inr even) low high = rw even (omega (arith, even, low), omega (arith, even, high))

even_or_odd : (n : ℕ) → (n % 2 ≡ 1) ⊎ (n % 2 ≡ 0)
even_or_odd n = grind arith

-- a sibling stands at the same level
sibling_within : (up node : ℕ) → 2 ^ suc up ≤ node → node < 2 ^ suc (suc up) → (2 ^ suc up ≤ sibling node) × (sibling node < 2 ^ suc (suc up))
sibling_within up node low high = sibling_by up node (even_or_odd node) low high

-- where the walk up a path stands: so many levels up, at a node of that level
pub record Stands (h level node : ℕ) : Type 0 where
  pub below : level ≤ h
  pub low : 2 ^ (h - level) ≤ node
  pub high : node < 2 ^ suc (h - level)

pub begins : (h q : ℕ) → q < 2 ^ h → Stands h 0 (2 ^ h + q)
begins h q inside =
    let same : h - 0 ≡ h = omega arith in
    record { below = omega arith; low = rw same (omega arith); high = rw same (omega (arith, inside)) }

-- at a level below the root
up_from : (h level : ℕ) → level < h → h - level ≡ suc (h - (level + 1))
up_from h level less = omega (arith, less)

pub goes_up : (h level node : ℕ) → level < h → Stands h level node → Stands h (level + 1) (node / 2)
goes_up h level node less at =
    let low = rw (up_from h level less) at at.low in
    let high = rw (up_from h level less) at at.high in
    record { below = omega (arith, less); low = omega (arith, low); high = omega (arith, high) }

-- the sibling is there
pub sibling_inside : (h level node : ℕ) → level < h → Stands h level node → sibling node < 2 * 2 ^ h
sibling_inside h level node less at =
    let low = rw (up_from h level less) at at.low in
    let high = rw (up_from h level less) at at.high in
    let within = (sibling_within (h - (level + 1)) node low high).1 in
    let more = power_more (suc (suc (h - (level + 1)))) level in
    let count : level + suc (suc (h - (level + 1))) ≡ suc h = omega (arith, less) in
    let full : 2 ^ (level + suc (suc (h - (level + 1)))) ≡ 2 ^ suc h = ap (λ (n : ℕ). 2 ^ n) count in
    omega (arith, within, more, full)

-- what is left of a path begins with the sibling
pub path_next : (params : KeyParams) (tree : TreeSecret) (nodes : List (List ℕ)) → IsGrown params tree nodes → (level node : ℕ) → level < params.height → Stands params.height level node
    → concat (path_above tree.identifier (leaf_at params tree) level node (params.height - level)) ≡ slice_index_or nodes (sibling node) [] ++ concat
    (path_above tree.identifier (leaf_at params tree) (level + 1) (node / 2) (params.height - (level + 1)))
unfolding path_above
path_next params tree nodes grown level node less at =
    let up = up_from params.height level less in
    let low = rw up at at.low in
    let high = rw up at at.high in
    let within = sibling_within (params.height - (level + 1)) node low high in
    let count : level + suc (params.height - (level + 1)) ≡ params.height = omega (arith, less) in
    let is = node_is params tree nodes grown level (suc (params.height - (level + 1))) (sibling node) count within.0 within.1 in
    let next : suc level ≡ level + 1 = omega arith in
    rw (up, next, is) refl

-- at the root nothing is left of a path
pub path_done : (identifier : List ℕ) (leaf : ℕ → List ℕ) (level node up : ℕ) → up ≡ 0 → concat (path_above identifier leaf level node up) ≡ []
unfolding path_above
path_done identifier leaf level node up none = rw none refl
