use Rattle.std.proofs.Common.{◌≡◌, ◌-◌, ◌+◌, ◌^◌, ◌++◌}
use Rattle.std.specs.List.{concat}
use Rattle.lms_core.specs.Tree.{path_above}
use Rattle.hss_sign.specs.Trees.{leaf_at}
use Rattle.hss_sign.proofs.Grown.{Stands}
use Rattle.hss_sign.proofs.tree.Tree.write_path.Given as goal

-- what is written and what is left are the whole path
abbrev pub invariant-loop-level : goal.invariant-loop-level
invariant-loop-level l = record {
  stands : Stands l.fn.params.height l.level l.node;
  whole : l.bytes.items ++ concat (path_above l.self.secret.identifier (leaf_at l.fn.params l.self.secret) l.level l.node (l.fn.params.height - l.level))
      ≡ l.initial.bytes.items ++ concat (path_above l.self.secret.identifier (leaf_at l.fn.params l.self.secret) 0 (2 ^ l.fn.params.height + l.fn.leaf) l.fn.params.height);
}
