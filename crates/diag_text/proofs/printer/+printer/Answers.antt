use Rattle.std.proofs.Common.{string_bytes}
use Rattle.diag_text.specs.Printed.{printed, pair_printed}
use Rattle.diag_text.proofs.Texts.{part_written}
use Rattle.diag_text.proofs.printer.+printer.Goals as goal

pub push_members-loop-index-preserved : goal.push_members-loop-index-preserved
push_members-loop-index-preserved t c =
    part_written printed c.args.members.now c.loop-index.index c.index-members-index.result (string_bytes c.args.out.now) (string_bytes c.loop-index.out) (string_bytes c.push_separator.new.out) (string_bytes c.push_item.new.out)
    c.loop-index-test.true c.index-members-index.is c.loop-index.invariant c.in_ok-push_separator.ensures c.in_ok-push_item.ensures

pub push_pairs-loop-index-preserved : goal.push_pairs-loop-index-preserved
push_pairs-loop-index-preserved t c =
    part_written pair_printed c.args.pairs.now c.loop-index.index c.index-pairs-index.result (string_bytes c.args.out.now) (string_bytes c.loop-index.out) (string_bytes c.push_separator.new.out) (string_bytes c.push_pair.new.out)
    c.loop-index-test.true c.index-pairs-index.is c.loop-index.invariant c.in_ok-push_separator.ensures c.in_ok-push_pair.ensures
