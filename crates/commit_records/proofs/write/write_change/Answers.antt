use Rattle.std.proofs.Common.{sym}
use Rattle.commit_records.proofs.Written.{change_proper, again}
use Rattle.commit_records.proofs.Sizes as sizes
use Rattle.commit_records.proofs.write.write_change.Goals as goal

pub encode-requires : goal.encode-requires
encode-requires c = rw c.in_ok-item.ensures.value (change_proper c.args.change.now)

pub returns-clause-again : goal.returns-clause-again
returns-clause-again c = again c.args.change.now c.encode.result c.requires c.in_ok-item.ensures.anchors (rw (sym c.in_ok-item.ensures.value) c.encode.ensures)

pub returns-clause-size : goal.returns-clause-size
returns-clause-size c = sizes.size c.args.change.now c.encode.result c.requires c.in_ok-item.ensures.anchors (rw (sym c.in_ok-item.ensures.value) c.encode.ensures)

pub returns-clause-leaf_alone : goal.returns-clause-leaf_alone
returns-clause-leaf_alone c = sizes.leaf_alone c.args.change.now c.encode.result (rw (sym c.in_ok-item.ensures.value) c.encode.ensures)
