use Rattle.commit_records.proofs.Readers.{only}
use Rattle.commit_records.proofs.read.read_change.Goals as goal

pub returns-in-Ok-clause-only : goal.returns-in-Ok-clause-only
returns-in-Ok-clause-only c = only c.args.bytes.now c.in-Ok.item c.read_item.result c.in-Ok.ensures.found c.read_item.ensures
