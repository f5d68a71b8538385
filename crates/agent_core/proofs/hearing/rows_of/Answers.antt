use Rattle.agent_core.proofs.Hears.{heads_have_ids}
use Rattle.agent_core.proofs.hearing.rows_of.Goals as goal

pub returns-clause-ids : goal.returns-clause-ids
returns-clause-ids g c = rw (c.as_slice.ensures, c.rows.ensures) (heads_have_ids (g.S.Store.state c.args.store.now).rows c.weight-weight.ensures.valid.sound.rows)
