use Rattle.manifest_judge.proofs.Passing as law
use Rattle.manifest_judge.proofs.laws.words_stay.Goals as goal

pub returns : goal.returns
returns c = law.words_stay
