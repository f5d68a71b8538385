-- Nodes of a tree by their numbers, and the way up from a leaf.
use Rattle.std.proofs.Common.{◌≡◌, ℕ, zero, suc, ◌+◌, ◌-◌, ◌*◌, ◌/◌, ◌%◌, ◌^◌, ◌<◌, ◌≤◌, ◌⊎◌, inl, inr, List, refl, ap, ◌∙◌, arith}
use Rattle.lms_core.specs.Tree.{inner_hash, parent_hash, path_above, root_above, sibling, tree_node}

even_or_odd : (n : ℕ) → (n % 2 ≡ 1) ⊎ (n % 2 ≡ 0)
even_or_odd n = grind arith

parent_by : (identifier : List ℕ) (leaf : ℕ → List ℕ) (level node : ℕ) → (node % 2 ≡ 1) ⊎ (node % 2 ≡ 0)
    → parent_hash identifier node (tree_node identifier leaf level node) (tree_node identifier leaf level (sibling node)) ≡ tree_node identifier leaf (suc level) (node / 2)
unfolding tree_node
parent_by identifier leaf level node (inl odd) =
    let left : node - 1 ≡ 2 * (node / 2) = omega (arith, odd) in
    let right : node ≡ 2 * (node / 2) + 1 = omega (arith, odd) in
    rw odd (λ i. inner_hash identifier (node / 2) (tree_node identifier leaf level (left i)) (tree_node identifier leaf level (right i)))
parent_by identifier leaf level node (inr even) =
    let left : node ≡ 2 * (node / 2) = omega (arith, even) in
    let right : node + 1 ≡ 2 * (node / 2) + 1 = omega (arith, even) in
    rw even (λ i. inner_hash identifier (node / 2) (tree_node identifier leaf level (left i)) (tree_node identifier leaf level (right i)))

-- a node and its sibling hash to their parent
pub parent_of_siblings : (identifier : List ℕ) (leaf : ℕ → List ℕ) (level node : ℕ)
    → parent_hash identifier node (tree_node identifier leaf level node) (tree_node identifier leaf level (sibling node)) ≡ tree_node identifier leaf (suc level) (node / 2)
parent_of_siblings identifier leaf level node = parent_by identifier leaf level node (even_or_odd node)

half_low : (up node : ℕ) → 2 ^ suc up ≤ node → 2 ^ up ≤ node / 2
half_low up node h = omega (arith, h)

half_high : (up node : ℕ) → node < 2 ^ suc (suc up) → node / 2 < 2 ^ suc up
half_high up node h = omega (arith, h)

-- a node leads to node 1 by its path
pub path_leads_to_root : (identifier : List ℕ) (leaf : ℕ → List ℕ) (level node up : ℕ) → 2 ^ up ≤ node → node < 2 ^ suc up
    → root_above identifier node (tree_node identifier leaf level node) (path_above identifier leaf level node up) ≡ tree_node identifier leaf (level + up) 1
unfolding path_above
path_leads_to_root identifier leaf level node zero low high =
    let same : level + 0 ≡ level = omega arith in
    let one : node ≡ 1 = omega (arith, low, high) in
    rw (one, same) refl
path_leads_to_root identifier leaf level node (suc up) low high =
    let rest = path_above identifier leaf (suc level) (node / 2) up in
    ap (λ (x : List ℕ). root_above identifier (node / 2) x rest) (parent_of_siblings identifier leaf level node)
    ∙ path_leads_to_root identifier leaf (suc level) (node / 2) up (half_low up node low) (half_high up node high)
    ∙ ap (λ (n : ℕ). tree_node identifier leaf n 1) (omega arith)
