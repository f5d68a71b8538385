use Rattle.std.proofs.lemmas.Result.{err_from_is_err_and}
use Rattle.cbor_fields.specs.Reads.{ReadsForm}
use Rattle.cbor_fields.specs.declared.fault.FormFault.{FormFault}
use Rattle.cbor_fields.specs.declared.fault.FormFault.TheVariants.{Shape, NoMemory}
use Rattle.std.specs.Prelude.{◌≡◌, Option, None, Err}
use Rattle.cbor_fields.proofs.Each.{all_read, one_unread}
use Rattle.cbor_fields.proofs.list.read_each.Goals as goal

-- a refusal of a part is one of the whole, where the part's Shape is the whole's
handed_on : {A B : Type 0} (part : Option A) (whole : Option B) (e : FormFault) → (part ≡ None → whole ≡ None) → ReadsForm {A = A} part (Err e) → ReadsForm {A = B} whole (Err e)
handed_on part whole Shape follows reads = follows reads
handed_on part whole NoMemory follows reads = tt

pub returns-in_err-read : goal.returns-in_err-read
returns-in_err-read g c =
    let p = err_from_is_err_and c.from_residual.result c.from_residual.ensures.1 in
    rw (p.1, p.2) (handed_on (g.F.Form.view c.member-item.result) _ c.in_err-read.field-0.0 (λ none. one_unread g.F.Form.view c.loop-member.values c.args.members.now c.loop-member.member-index c.member-item.result
    c.loop-member-test.true c.member-item.is none c.loop-member.invariant) c.in_err-read.ensures)

pub returns : goal.returns
returns g c = all_read g.F.Form.view c.loop-member.values c.args.members.now c.loop-member.member-index c.loop-member-test.false c.loop-member.invariant
