use Rattle.manifest_judge.proofs.Passing as law
use Rattle.manifest_judge.proofs.laws.accepted.Goals as goal

pub returns : goal.returns
returns c = law.accepted
