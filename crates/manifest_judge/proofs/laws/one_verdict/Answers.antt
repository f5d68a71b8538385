use Rattle.manifest_judge.proofs.Verdicts as law
use Rattle.manifest_judge.proofs.Public.Candidates as candidates
use Rattle.manifest_judge.proofs.Public.Judged as judged
use Rattle.manifest_judge.proofs.laws.one_verdict.Goals as goal

pub returns : goal.returns
returns c = let waits = candidates.waits_on in let one = judged.verdict_one in law.one_verdict c.one_outcome.ensures
