use Rattle.cose_core.proofs.Headings.{alg_some, alg_none}
use Rattle.cose_core.proofs.wrapped.names_hss_lms.Goals as goal

pub returns-in-Some : goal.returns-in-Some
returns-in-Some c x s = alg_some x c.in-Some.n (c.in-Some.ensures x s)

pub returns-in-None : goal.returns-in-None
returns-in-None c x s = alg_none x (c.in-None.ensures x s)
