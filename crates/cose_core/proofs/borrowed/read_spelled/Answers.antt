use Rattle.std.proofs.Common.{ap, Err}
use Rattle.cose_core.specs.declared.fault.CoseFault.{CoseFault}
use Rattle.cose_core.proofs.Borrowings.{good, bad, no_form}
use Rattle.cose_core.proofs.borrowed.read_spelled.Goals as goal

pub returns-in-Ok : goal.returns-in-Ok
returns-in-Ok c = good c.args.bytes.now c.requires.0 c.requires.1 c.in-Some.value (c.in-Some.ensures c.requires.0 c.requires.1) c.in-Ok.ensures.checked

pub returns-in-Err : goal.returns-in-Err
returns-in-Err c = bad c.args.bytes.now c.requires.0 c.requires.1 c.in-Some.value c.in-Err.fault (c.in-Some.ensures c.requires.0 c.requires.1)
    c.in-Err.ensures.checked (λ is. c.in-Err.ensures.memory (ap (λ (e : CoseFault). Err e) is))

pub returns-in_default : goal.returns-in_default
returns-in_default c = no_form c.args.bytes.now c.requires.0 c.requires.1 (c.in_default.ensures c.requires.0 c.requires.1)
