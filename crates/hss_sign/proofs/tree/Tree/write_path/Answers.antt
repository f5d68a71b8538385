use Rattle.std.proofs.Common.{◌≡◌, ◌-◌, ◌+◌, ◌/◌, ◌<◌, ◌++◌, List, ℕ, refl, ap, sym, ◌∙◌, arith}
use Rattle.std.specs.List.{concat}
use Rattle.std.proofs.lemmas.List.{append-nil, append_assoc}
use Rattle.lms_core.specs.Tree.{path_above}
use Rattle.hss_sign.specs.Trees.{leaf_at}
use Rattle.hss_sign.proofs.Grown.{goes_up, path_done, path_next, sibling_inside}
use Rattle.hss_sign.proofs.tree.Tree.write_path.Goals as goal

pub node-requires : goal.node-requires
node-requires c =
    let size = c.requires.grown.size in
    let inside = sibling_inside c.args.params.height c.loop-level.level c.loop-level.node (omega arith) c.loop-level.invariant.stands in
    rw c.sibling.ensures (omega (arith, inside, size))

pub loop-level-preserved : goal.loop-level-preserved
loop-level-preserved c =
    let tree = c.args.self.now.secret in
    let nodes = c.args.self.now.nodes.items in
    let less : c.loop-level.level < c.args.params.height = omega arith in
    let next = path_next c.args.params tree nodes c.requires.grown c.loop-level.level c.loop-level.node less c.loop-level.invariant.stands in
    let rest = concat (path_above tree.identifier (leaf_at c.args.params tree) (c.loop-level.level + 1) (c.loop-level.node / 2) (c.args.params.height - (c.loop-level.level + 1))) in
    record {
      stands = goes_up c.args.params.height c.loop-level.level c.loop-level.node less c.loop-level.invariant.stands;
      whole = ap (λ (x : List ℕ). x ++ rest) (c.in_ok-extend_from_slice.ensures.items ∙ rw (c.node.ensures, c.sibling.ensures) refl)
          ∙ append_assoc c.loop-level.bytes.items _ rest ∙ ap (λ (x : List ℕ). c.loop-level.bytes.items ++ x) (sym next) ∙ c.loop-level.invariant.whole;
    }

pub returns : goal.returns
returns c = record {
  value =
      let done : c.args.params.height - c.loop-level.level ≡ 0 = omega arith in
      sym (append-nil c.loop-level.bytes.items) ∙ ap (λ (x : List ℕ). c.loop-level.bytes.items ++ x) (sym (path_done _ _ c.loop-level.level c.loop-level.node _ done)) ∙ c.loop-level.invariant.whole;
}
