use Rattle.std.proofs.Common.{Some, sym, ◌∙◌, ap}
use Rattle.lms_core.proofs.Signatures.{accepted, form_under}
use Rattle.lms_core.proofs.verify.lms_signature_len.Goals as goal

pub returns-clause-exact : goal.returns-clause-exact
returns-clause-exact c = λ message signature valid.
    ap Some (c.signature_len.ensures ∙ sym (accepted c.args.public.now message signature c.in_ok-key.key c.in_ok-key.ensures.found valid).form.size)

pub returns-clause-formed : goal.returns-clause-formed
returns-clause-formed c = λ signature formed.
    ap Some (c.signature_len.ensures ∙ sym (form_under c.args.public.now signature c.in_ok-key.key c.in_ok-key.ensures.found formed).size)
