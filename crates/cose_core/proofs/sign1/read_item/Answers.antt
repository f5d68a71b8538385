use Rattle.std.proofs.Common.{ℕ, List, Err, sym, subst}
use Rattle.std.proofs.lemmas.Result.{err_from_is_err_and}
use Rattle.cose_core.specs.Reading.{CheckedAs}
use Rattle.cose_core.proofs.Sign1s.{not_checked}
use Rattle.cose_core.proofs.sign1.read_item.Goals as goal

pub returns-in_err-check_protected : goal.returns-in_err-check_protected
returns-in_err-check_protected c =
    let p = err_from_is_err_and c.from_residual.result c.from_residual.ensures.1 in
    let e = c.in_err-check_protected.field-0.0 in
    rw (p.1, p.2) (not_checked c.args.item c.in-Some.value e (sym c.in-Some.ensures)
    (subst (λ (bytes : List ℕ). CheckedAs {T = Unit {0}} bytes (Err e)) c.as_slice.ensures c.in_err-check_protected.ensures))
