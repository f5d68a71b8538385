use Rattle.std.proofs.Common.{◌≡◌, ◌+◌, ◌*◌, ◌<◌, ◌≤◌, ℕ, [], length, slice_index_or}
use Rattle.lms_core.specs.Tree.{inner_hash}
use Rattle.hss_sign.proofs.grow.join_nodes.Given as goal

-- the nodes so far are hashes of those below them, and the leaves are left
abbrev pub invariant-loop-done : goal.invariant-loop-done
invariant-loop-done l = record {
  size : length l.nodes ≡ length l.initial.nodes;
  inner : (r : ℕ) → l.leaves < r + l.done → r < l.leaves
      → slice_index_or l.nodes r [] ≡ inner_hash l.identifier r (slice_index_or l.nodes (2 * r) []) (slice_index_or l.nodes (2 * r + 1) []);
  kept : (r : ℕ) → l.leaves ≤ r → slice_index_or l.nodes r [] ≡ slice_index_or l.initial.nodes r [];
}
