use Rattle.std.proofs.Common.{◌≡◌, subst, sym, ap}
use Rattle.device_state.specs.Places.{Ascend, IsFoundAt, IsFreeAt}
use Rattle.device_state.proofs.Putting.{set_puts, insert_puts, put_ascends}
use Rattle.device_state.proofs.placing.put.Goals as goal

pub returns-in-Ok-clause-put : goal.returns-in-Ok-clause-put
returns-in-Ok-clause-put g c = λ up.
    let found = rw (c.as_slice.ensures.value, c.id.ensures) at (c.in-Ok.ensures.place (rw c.as_slice.ensures.value up)) in
    set_puts g.R.HasId.id_of c.args.row c.args.rows.now.items c.in-Ok.at up found.within found.here

pub returns-in-Ok-clause-ascend : goal.returns-in-Ok-clause-ascend
returns-in-Ok-clause-ascend g c = λ up.
    rw (returns-in-Ok-clause-put g c up) (put_ascends g.R.HasId.id_of c.args.row c.args.rows.now.items up)

pub returns-in-Ok-insert-clause-put : goal.returns-in-Ok-insert-clause-put
returns-in-Ok-insert-clause-put g c = λ up.
    let free = rw (c.as_slice.ensures.value, c.id.ensures) at (c.in-Err.ensures.place (rw c.as_slice.ensures.value up)) in
    rw c.in-Ok-insert.ensures.items (insert_puts g.R.HasId.id_of c.args.row c.args.rows.now.items c.in-Err.at free)

pub returns-in-Ok-insert-clause-ascend : goal.returns-in-Ok-insert-clause-ascend
returns-in-Ok-insert-clause-ascend g c = λ up.
    rw (returns-in-Ok-insert-clause-put g c up) (put_ascends g.R.HasId.id_of c.args.row c.args.rows.now.items up)
