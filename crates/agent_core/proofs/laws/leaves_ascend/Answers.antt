use Rattle.agent_core.proofs.LeavesAscend as law
use Rattle.agent_core.proofs.laws.leaves_ascend.Goals as goal

pub returns : goal.returns
returns c = law.leaves_ascend
