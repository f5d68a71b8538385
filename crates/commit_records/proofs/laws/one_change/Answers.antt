use Rattle.commit_records.proofs.Readers as readers
use Rattle.commit_records.proofs.laws.one_change.Goals as goal

pub returns : goal.returns
returns c = readers.one_change
