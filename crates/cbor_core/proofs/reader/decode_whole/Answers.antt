use Rattle.std.proofs.lemmas.Result.{err_from_is_err_and}
use Rattle.cbor_core.proofs.Inputs.{only_err, refused_err, refused_extra, refused_not}
use Rattle.cbor_core.proofs.reader.decode_whole.Goals as goal

pub returns-in_err-item-clause-only : goal.returns-in_err-item-clause-only
returns-in_err-item-clause-only c x s =
    let p = err_from_is_err_and c.from_residual.result c.from_residual.ensures.1 in
    rw (p.1, p.2) (only_err c.args.bytes.now c.in_err-item.field-0.0 c.in_err-item.ensures.only x s)

pub returns-in_err-item-clause-refused : goal.returns-in_err-item-clause-refused
returns-in_err-item-clause-refused c f h =
    let p = err_from_is_err_and c.from_residual.result c.from_residual.ensures.1 in
    rw (p.1, p.2) (refused_err c.args.bytes.now c.in_err-item.field-0.0 f c.in_err-item.ensures.only (c.in_err-item.ensures.refused f) h)

pub returns-then-n-bytes-clause-refused : goal.returns-then-n-bytes-clause-refused
returns-then-n-bytes-clause-refused c f h =
    rw c.bad.ensures (refused_extra c.args.bytes.now c.in_ok-item.item c.in_ok-item.n f c.in_ok-item.ensures.only (c.in_ok-item.ensures.refused f) h)

pub returns-clause-refused : goal.returns-clause-refused
returns-clause-refused c f h = refused_not c.args.bytes.now c.in_ok-item.item c.in_ok-item.n f c.if-n-bytes.false c.in_ok-item.ensures.only (c.in_ok-item.ensures.refused f) h
