use Rattle.manifest_judge.proofs.Passing as law
use Rattle.manifest_judge.proofs.laws.needs_an_address.Goals as goal

pub returns : goal.returns
returns c = law.needs_an_address c.needs_an_address.ensures
