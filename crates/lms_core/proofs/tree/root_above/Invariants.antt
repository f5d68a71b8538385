use Rattle.std.proofs.Common.{◌≡◌, ◌-◌, ◌*◌, ◌/◌, length, drop}
use Rattle.lms_core.specs.Layout.{hashes_in}
use Rattle.lms_core.specs.Tree.{root_above}
use Rattle.lms_core.proofs.tree.root_above.Given as goal

-- from the node that was reached, the rest of the path leads to the root
abbrev pub invariant-loop-k : goal.invariant-loop-k
invariant-loop-k l =
    root_above l.identifier l.above l.root (hashes_in (length l.path / 32 - l.k) (drop (32 * l.k) l.path))
    ≡ root_above l.fn.identifier l.fn.node l.fn.value (hashes_in (length l.fn.path / 32) l.fn.path)
