use Rattle.std.proofs.Common.{ℕ, ◌<◌, get_or, sym, ◌∙◌, arith}
use Rattle.std.proofs.lemmas.Bool.Decides.{Decides-eqb}
use Rattle.std.proofs.lemmas.Slice.Eq.{slice_eq-Decides}
use Rattle.lms_core.proofs.Signatures.{accepted, valid_at}
use Rattle.lms_core.proofs.verify.lms_verify_message.Goals as goal

pub returns-then-has_form : goal.returns-then-has_form
returns-then-has_form c =
    let key = c.in-Some.key in
    let fits : (i : ℕ) → get_or c.args.signature.now i 0 < 256 = λ i. omega (arith, c.type_inv.signature i) in
    let same = slice_eq-Decides Decides-eqb c.root_candidate.result key.root c.eq.result c.eq.ensures in
    let form = c.has_form.ensures.0 c.if-has_form.true in (
      λ equal. valid_at c.args.public.now c.args.message.now c.args.signature.now key fits c.in-Some.ensures.found form (sym c.root_candidate.ensures ∙ same.0 equal),
      λ valid. same.1 (c.root_candidate.ensures ∙ (accepted c.args.public.now c.args.message.now c.args.signature.now key c.in-Some.ensures.found valid).root),
    )

pub returns-else-has_form : goal.returns-else-has_form
returns-else-has_form c = (
  λ yes. absurd (cc),
  λ valid. c.has_form.ensures.1 (accepted c.args.public.now c.args.message.now c.args.signature.now c.in-Some.key c.in-Some.ensures.found valid).form,
)
