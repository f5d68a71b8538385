use Rattle.commit_records.proofs.Readers.{anchors_refused}
use Rattle.commit_records.proofs.read.read_anchors.Goals as goal

pub returns-in-Err : goal.returns-in-Err
returns-in-Err c = rw c.fault_of.ensures (anchors_refused c.args.item.now c.in-Err.fault c.in-Err.ensures.only)
