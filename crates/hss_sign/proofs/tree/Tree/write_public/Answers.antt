use Rattle.lms_core.specs.Bytes.{u32_bytes}
use Rattle.lms_core.specs.Tree.{tree_node}
use Rattle.hss_sign.specs.Params.{lms_type, ots_type}
use Rattle.hss_sign.specs.Trees.{leaf_at}
use Rattle.hss_sign.proofs.Grown.{root_is}
use Rattle.hss_sign.proofs.Joined.{four_parts}
use Rattle.hss_sign.proofs.tree.Tree.write_public.Goals as goal

pub returns : goal.returns
returns c =
    let params = c.args.params in
    let tree = c.args.self.now.secret in
    record {
      value =
          rw (
            c.in_ok-extend_from_slice-4.ensures.items,
            c.in_ok-extend_from_slice-3.ensures.items,
            c.in_ok-extend_from_slice-2.ensures.items,
            c.in_ok-extend_from_slice.ensures.items,
            c.to_be_bytes.ensures,
            c.to_be_bytes-2.ensures,
            c.lms_type.ensures,
            c.ots_type.ensures,
            c.node.ensures,
            root_is params tree c.args.self.now.nodes.items c.requires.grown,
          )
          (four_parts c.args.bytes.now.items (u32_bytes (lms_type params)) (u32_bytes (ots_type params)) tree.identifier (tree_node tree.identifier (leaf_at params tree) params.height 1));
    }
