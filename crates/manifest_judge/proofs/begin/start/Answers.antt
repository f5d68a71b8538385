use Rattle.manifest_judge.proofs.Opening.{carried_fresh}
use Rattle.manifest_judge.proofs.begin.start.Goals as goal

pub returns-clause-fresh : goal.returns-clause-fresh
returns-clause-fresh c = carried_fresh c.args.rows.now c.args.envelope.now.manifest c.in_ok-engine.engine c.in_ok-engine.ensures.fresh c.with_engine.result c.with_engine.ensures
