use Rattle.std.proofs.Common.{◌+◌, ◌-◌, ◌*◌, ◌/◌, List, ℕ, length, drop, sym, ◌∙◌, ap, arith}
use Rattle.lms_core.specs.Layout.{hashes_in}
use Rattle.lms_core.specs.Tree.{root_above, parent_hash}
use Rattle.lms_core.proofs.Public.Hashes.{hashes_in-next}
use Rattle.lms_core.proofs.tree.root_above.Goals as goal

pub loop-k-preserved : goal.loop-k-preserved
loop-k-preserved c =
    let path = c.args.path.now in
    let up = root_above c.args.identifier.now c.loop-k.above c.loop-k.root in
    let next = hashes_in-next (length path / 32) c.loop-k.k path (omega arith) in
    let parent = c.parent_hash-root.ensures ∙ ap (parent_hash c.args.identifier.now c.loop-k.above c.loop-k.root) c.array_at-sibling.ensures in
    let rest = hashes_in (length path / 32 - (c.loop-k.k + 1)) (drop (32 * (c.loop-k.k + 1)) path) in
    ap (λ (value : List ℕ). root_above c.args.identifier.now (c.loop-k.above / 2) value rest) parent ∙ sym (ap up next) ∙ c.loop-k.invariant
