use Rattle.manifest_judge.proofs.Passing as law
use Rattle.manifest_judge.proofs.laws.made_are_sound.Goals as goal

pub returns : goal.returns
returns c = law.made_are_sound
