use Rattle.std.proofs.Common.{rules}
use Rattle.cose_core.proofs.Sign1s.{not_good}
use Rattle.cose_core.proofs.headers.are_good.Goals as goal

pub returns-in_default : goal.returns-in_default
returns-in_default c = (search rules, λ good. absurd (not_good c.args.protected.now c.in-Err.fault c.in-Err.ensures c.in_default.not-NoMemory good))
