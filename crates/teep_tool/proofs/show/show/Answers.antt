use Rattle.teep_tool.proofs.Outcomes.{showed_from, exactly_from, rose_earlier}
use Rattle.teep_tool.proofs.show.show.Goals as goal

pub returns-in-Ok-clause-showed : goal.returns-in-Ok-clause-showed
returns-in-Ok-clause-showed g c told =
    let read = c.in-Ok.ensures.contents told in
    let printed = rw c.as_slice.ensures at c.show_bytes.ensures.showed told in
    showed_from c.args.name.now c.in-Ok.bytes c.show_bytes.result _ _ _ read printed

pub returns-in-Ok-clause-exactly : goal.returns-in-Ok-clause-exactly
returns-in-Ok-clause-exactly g c told quiet memory bytes status is calls =
    let read = c.in-Ok.ensures.contents told in
    let printed = rw c.as_slice.ensures at c.show_bytes.ensures.showed told in
    exactly_from c.args.name.now c.in-Ok.bytes bytes c.show_bytes.result status _ _ _ read printed
    (λ fault. quiet (rose_earlier _ _ _ c.in-Ok.ensures.cause.later (c.show_bytes.ensures.cause.fault fault))) memory is calls
