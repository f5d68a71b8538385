use Rattle.std.proofs.Common.{◌+◌, ◌^◌}
use Rattle.std.specs.List.{concat}
use Rattle.lms_core.specs.Bytes.{u32_bytes}
use Rattle.lms_core.specs.OneTime.{message_hash}
use Rattle.lms_core.specs.Tree.{path_above}
use Rattle.hss_sign.specs.Params.{lms_type, ots_params, ots_type}
use Rattle.hss_sign.specs.Sign.{one_time_signature, randomizer}
use Rattle.hss_sign.specs.Trees.{leaf_at}
use Rattle.std.proofs.lemmas.List.{append-nil}
use Rattle.hss_sign.proofs.Joined.{six_parts}
use Rattle.hss_sign.proofs.tree.Tree.write_signature.Goals as goal

pub returns : goal.returns
returns c =
    let params = c.args.params in
    let tree = c.args.self.now.secret in
    let q = c.args.leaf in
    record {
      value =
          rw (
            c.in_ok-write_path.ensures.value,
            c.in_ok-extend_from_slice-4.ensures.items,
            c.in_ok-sign_digest.ensures.value,
            c.in_ok-extend_from_slice-3.ensures.items,
            c.in_ok-extend_from_slice-2.ensures.items,
            c.in_ok-extend_from_slice.ensures.items,
            c.to_be_bytes.ensures,
            c.to_be_bytes-2.ensures,
            c.to_be_bytes-3.ensures,
            c.lms_type.ensures,
            c.ots_type.ensures,
            c.ots.ensures.value,
            c.message_hash-digest.ensures,
            c.new.ensures.value,
            append-nil c.args.message.now,
            c.at-randomizer.ensures,
          )
          (six_parts c.args.bytes.now.items (u32_bytes q) (u32_bytes (ots_type params)) (randomizer tree q)
          (concat (one_time_signature (ots_params params) tree q (message_hash tree.identifier q (randomizer tree q) c.args.message.now)))
          (u32_bytes (lms_type params)) (concat (path_above tree.identifier (leaf_at params tree) 0 (2 ^ params.height + q) params.height)));
    }
