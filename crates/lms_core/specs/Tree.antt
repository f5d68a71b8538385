-- The Merkle tree of LMS (RFC 8554, 5.3 and 5.4.2).
use Rattle.std.specs.Prelude.{ℕ, zero, suc, ◌+◌, ◌-◌, ◌*◌, ◌/◌, ◌%◌, ◌==◌, if◌then◌else◌, List, [], ◌∷◌, ◌++◌}
use Rattle.sha2.specs.Sha256.{sha256}
use Rattle.lms_core.specs.Bytes.{u32_bytes}

-- D_LEAF and D_INTR (RFC 8554, 7.1)
abbrev pub leaf_domain : List ℕ
leaf_domain = 0x82 ∷ 0x82 ∷ []

-- D_INTR (RFC 8554, 7.1)
abbrev pub inner_domain : List ℕ
inner_domain = 0x83 ∷ 0x83 ∷ []

-- a leaf: H(I || u32str(r) || D_LEAF || K) at node r, of the one-time public key K (RFC 8554, 5.3)
abbrev pub leaf_hash : List ℕ → ℕ → List ℕ → List ℕ
leaf_hash identifier node key = sha256 (identifier ++ u32_bytes node ++ leaf_domain ++ key)

-- an inner node: H(I || u32str(r) || D_INTR || T[2r] || T[2r+1]) at node r (RFC 8554, 5.3)
abbrev pub inner_hash : List ℕ → ℕ → List ℕ → List ℕ → List ℕ
inner_hash identifier node left right =
    sha256 (identifier ++ u32_bytes node ++ inner_domain ++ left ++ right)

-- the parent of a node and its sibling: an odd node is the right one of the two
-- (RFC 8554, 5.4.2, algorithm 6a)
abbrev pub parent_hash : List ℕ → ℕ → List ℕ → List ℕ → List ℕ
parent_hash identifier node value sibling =
    if node % 2 == 1
    then inner_hash identifier (node / 2) sibling value
    else inner_hash identifier (node / 2) value sibling

-- the root above a node, by the siblings on the path to it (RFC 8554, 5.4.2, algorithm 6a)
abbrev pub root_above : List ℕ → ℕ → List ℕ → List (List ℕ) → List ℕ
root_above identifier node value [] = value
root_above identifier node value (sibling ∷ path) =
    root_above identifier (node / 2) (parent_hash identifier node value sibling) path

-- T[r] of a tree over these leaves: the node of number r that stands so many levels above them (RFC 8554, 5.3)
unfoldable pub tree_node : List ℕ → (ℕ → List ℕ) → ℕ → ℕ → List ℕ
tree_node identifier leaf zero node = leaf node
tree_node identifier leaf (suc level) node =
    inner_hash identifier node (tree_node identifier leaf level (2 * node)) (tree_node identifier leaf level (2 * node + 1))

-- the other child of a node's parent
abbrev pub sibling : ℕ → ℕ
sibling node = if node % 2 == 1 then node - 1 else node + 1

-- the siblings of a node at this level and of so many nodes, it included, on the way up (RFC 8554, 5.4)
unfoldable pub path_above : List ℕ → (ℕ → List ℕ) → ℕ → ℕ → ℕ → List (List ℕ)
path_above identifier leaf level node zero = []
path_above identifier leaf level node (suc up) =
    tree_node identifier leaf level (sibling node) ∷ path_above identifier leaf (suc level) (node / 2) up
