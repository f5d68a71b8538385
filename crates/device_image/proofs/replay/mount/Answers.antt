use Rattle.std.proofs.Common.{◌≡◌, Err, length, subst, arith}
use Rattle.journal_core.specs.declared.fault.JournalFault.{JournalFault}
use Rattle.journal_core.specs.Kept.{IsWithin}
use Rattle.journal_core.specs.Outcome.{Mounts}
use Rattle.device_image.proofs.States.{mounted_alone}
use Rattle.device_image.proofs.replay.mount.Goals as goal

pub returns-in-Ok-clause-mounted : goal.returns-in-Ok-clause-mounted
returns-in-Ok-clause-mounted g c = λ told.
    let old = g.B.Board.view c.args.board.now in
    let within : IsWithin c.args.region (length old.now.disk.bytes) = omega (arith, c.requires, (g.met.B.Board.laws c.args.board.now told).measured) in
    mounted_alone c.one_list.ensures.one c.args.region old.now.disk.bytes c.in-Ok.journal within (c.in-Ok.ensures.mounts told)

pub returns-in-Err-NoJournal-clause-mounted : goal.returns-in-Err-NoJournal-clause-mounted
returns-in-Err-NoJournal-clause-mounted g c = λ told.
    subst (λ (e : JournalFault). Mounts c.args.region (g.B.Board.view c.args.board.now).now.disk.bytes (Err e)) c.in-Err-NoJournal.field-0-is (c.in-Err-NoJournal.ensures.mounts told)
