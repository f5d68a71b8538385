use Rattle.manifest_judge.proofs.Running.{judged}
use Rattle.manifest_judge.proofs.candidate.Candidate.run.Goals as goal

pub returns-clause-verdict : goal.returns-clause-verdict
returns-clause-verdict c = λ s begins. judged s c.args.self.now c.args.env.now c.in_ok-outcome.outcome c.in_ok-outcome.ensures.outcome c.end.result c.end.ensures begins
