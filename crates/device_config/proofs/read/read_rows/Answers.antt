use Rattle.std.proofs.lemmas.Result.{err_from_is_err_and}
use Rattle.device_config.proofs.Readers.{rows_refused}
use Rattle.device_config.proofs.read.read_rows.Goals as goal

pub returns-in_err-anchors : goal.returns-in_err-anchors
returns-in_err-anchors c =
    let p = err_from_is_err_and c.from_residual-in_err-anchors.result c.from_residual-in_err-anchors.ensures.1 in
    rw (p.1, p.2) (rows_refused _ _ _ _ _ _ _ _ _ c.in_err-anchors.field-0.0 c.in_err-anchors.ensures)
