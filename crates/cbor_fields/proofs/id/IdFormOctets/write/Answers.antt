use Rattle.std.proofs.Common.{sym, ap, ◌∙◌}
use Rattle.std.specs.Prelude.{Err}
use Rattle.cbor_fields.specs.Written.{decoded}
use Rattle.cbor_fields.proofs.Public.Forms.{decoded_is, decoded_none}
use Rattle.cbor_fields.proofs.id.IdFormOctets.write.Goals as goal

pub returns-in-Ok : goal.returns-in-Ok
returns-in-Ok c = sym (decoded_is c.as_slice.result.now c.in-Ok.item c.in-Ok.ensures.found) ∙ ap decoded c.as_slice.ensures

pub returns-in-Err-Bad : goal.returns-in-Err-Bad
returns-in-Err-Bad c =
    let faulty = c.in-Err-Bad.ensures.bad c.in-Err-Bad.field-0-0 (ap Err c.in-Err-Bad.field-0-is) in
    sym (decoded_none c.as_slice.result.now c.in-Err-Bad.field-0-0 faulty) ∙ ap decoded c.as_slice.ensures
