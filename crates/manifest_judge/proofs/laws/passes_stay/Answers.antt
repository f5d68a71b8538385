use Rattle.manifest_judge.proofs.Passing as law
use Rattle.manifest_judge.proofs.laws.passes_stay.Goals as goal

pub returns : goal.returns
returns c = law.passes_stay c.done_stays.ensures
