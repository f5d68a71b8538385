use Rattle.manifest_judge.proofs.Opening.{refused_form}
use Rattle.manifest_judge.proofs.candidate.Candidate.begin.Goals as goal

pub returns-in-Err-clause-entry : goal.returns-in-Err-clause-entry
returns-in-Err-clause-entry c =
    refused_form (record { place = c.args.place; bytes = c.args.bytes.now; config = c.args.config.now; rows = c.args.rows.now }) c.in-Err.fault
    c.if-place-ge-MANIFESTS_LIMIT.false c.in-Err.ensures.only c.refuse_form.result c.refuse_form.ensures
