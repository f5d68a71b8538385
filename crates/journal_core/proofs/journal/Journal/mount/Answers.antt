use Rattle.std.proofs.Common.{refl, ap, List, ℕ}
use Rattle.board_core.specs.Contents.{Disk}
use Rattle.journal_core.proofs.Scan.{mounted}
use Rattle.journal_core.proofs.journal.Journal.mount.Goals as goal

pub returns-clause-mounts : goal.returns-clause-mounts
returns-clause-mounts g c = λ told. mounted c.args.region (g.B.Board.view c.args.board.now).now.disk.bytes (g.B.Board.view c.selects_second.new.board).now.disk.bytes _ c.scan.result refl
    (c.in_ok-second.ensures.second told) (ap (λ (d : Disk). d.bytes) (c.selects_second.ensures.same told).disk) (c.scan.ensures.mounts told)
