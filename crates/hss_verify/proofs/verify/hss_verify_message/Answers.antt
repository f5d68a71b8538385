use Rattle.std.proofs.Common.{◌≡◌, ℕ, ◌-◌, ◌<◌, ◌≤◌, List, length, subst, sym, ◌∙◌, get_or, arith}
use Rattle.std.proofs.lemmas.Bool.{eqb-true, leb-true}
use Rattle.lms_core.specs.Bytes.{u32_at}
use Rattle.hss_verify.specs.Hss.{HssValid}
use Rattle.hss_verify.proofs.Levels.{counted, number_and_rest, valid_from}
use Rattle.hss_verify.proofs.verify.hss_verify_message.Goals as goal
use Rattle.hss_verify.proofs.verify.hss_verify_message.Goals.{then-signature-ge4, else-signature-ge4}

pub returns-then-read_u32-links : goal.returns-then-read_u32-links
returns-then-read_u32-links c =
    let signature = c.args.signature.now in
    let fits : (i : ℕ) → get_or signature i 0 < 256 = λ i. omega (arith, c.type_inv.signature i) in
    let levels = c.read_u32-links.result in
    let count : (4 ≤ length signature) × (u32_at signature 0 ≡ levels - 1) = elim c.if-signature-ge4.branch [
      | then-signature-ge4 w ↦ (w.if-signature-ge4.true, sym w.read_u32.ensures ∙ eqb-true _ _ (sym w.value-is ∙ c.if-read_u32-links.true))
      | else-signature-ge4 w ↦ let long = leb-true 4 (length signature) (sym w.value-is ∙ c.if-read_u32-links.true) in absurd (omega arith)
    ] in
    let P : List ℕ → Type 0 = λ public. HssValid public c.args.message.now signature in (
      λ yes. subst P c.bytes-key.ensures.value (valid_from c.bytes-key.result c.args.message.now signature levels (number_and_rest signature fits count.0) c.bytes-key.ensures.known c.read_u32-links.ensures (record {
        room = count.0;
        count = count.1;
        chain = c.is_signed.ensures.0 yes;
      })),
      λ valid. c.is_signed.ensures.1 (counted c.bytes-key.result c.args.message.now signature levels c.read_u32-links.ensures (subst P (sym c.bytes-key.ensures.value) valid)).chain,
    )
