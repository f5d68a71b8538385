use Rattle.std.proofs.Common.{ap, Err}
use Rattle.agent_core.proofs.Hears.{hears_no_content, hears_unsigned, verified_too}
use Rattle.agent_core.proofs.hearing.hear_envelope.Goals as goal

pub returns-in_default : goal.returns-in_default
returns-in_default g c = λ value parts. hears_no_content _ value c.args.envelope.now.payload (λ s. s.now) c.in_default.not-Some parts.payload

pub returns-in-Err-NotSigned : goal.returns-in-Err-NotSigned
returns-in-Err-NotSigned g c = λ value parts. hears_unsigned _ value c.in-Some.payload.now
    (rw c.in-Some.is at parts.payload)
    (λ at verified. c.in-Err-NotSigned.ensures.not_signed (ap (λ e. Err e) c.in-Err-NotSigned.field-0-is) at (verified_too c.in-Some.payload.now c.config.ensures.config parts.protected parts.signature at verified))
