use Rattle.std.proofs.Common.{refl, Ok, Err}
use Rattle.std.proofs.lemmas.Result.{err_from_is_err_and}
use Rattle.cbor_span.proofs.Wholes.{err_found, err_refused, extra_found, extra_refused, all_found, all_refused}
use Rattle.cbor_span.proofs.walk.check_whole.Goals as goal

pub returns-in_err-n-clause-found : goal.returns-in_err-n-clause-found
returns-in_err-n-clause-found c =
    let p = err_from_is_err_and c.from_residual.result c.from_residual.ensures.1 in
    rw (p.1, p.2) (err_found c.args.bytes.now (Err c.in_err-n.field-0.0) c.in_err-n.ensures.found c.in_err-n.ensures.refused c.in_err-n.field-0.0 refl)

pub returns-in_err-n-clause-refused : goal.returns-in_err-n-clause-refused
returns-in_err-n-clause-refused c f =
    let p = err_from_is_err_and c.from_residual.result c.from_residual.ensures.1 in
    rw (p.1, p.2) (err_refused c.args.bytes.now (Err c.in_err-n.field-0.0) c.in_err-n.ensures.found c.in_err-n.ensures.refused c.in_err-n.field-0.0 refl f)

pub returns-then-n-bytes-clause-found : goal.returns-then-n-bytes-clause-found
returns-then-n-bytes-clause-found c =
    rw c.fault.ensures (extra_found c.args.bytes.now (Ok c.in_ok-n.n) c.in_ok-n.ensures.found c.in_ok-n.ensures.refused c.in_ok-n.n refl c.if-n-bytes.true)

pub returns-then-n-bytes-clause-refused : goal.returns-then-n-bytes-clause-refused
returns-then-n-bytes-clause-refused c f =
    rw c.fault.ensures (extra_refused c.args.bytes.now (Ok c.in_ok-n.n) c.in_ok-n.ensures.found c.in_ok-n.ensures.refused c.in_ok-n.n refl c.if-n-bytes.true f)

pub returns-clause-found : goal.returns-clause-found
returns-clause-found c = all_found c.args.bytes.now (Ok c.in_ok-n.n) c.in_ok-n.ensures.found c.in_ok-n.ensures.refused c.in_ok-n.n refl c.if-n-bytes.false

pub returns-clause-refused : goal.returns-clause-refused
returns-clause-refused c f = all_refused c.args.bytes.now (Ok c.in_ok-n.n) c.in_ok-n.ensures.found c.in_ok-n.ensures.refused c.in_ok-n.n refl c.if-n-bytes.false f
