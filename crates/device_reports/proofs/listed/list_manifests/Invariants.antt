use Rattle.std.proofs.Common.{◌≡◌, take, string_bytes}
use Rattle.device_reports.specs.Listing.{heads_of}
use Rattle.device_reports.proofs.Going.{Goes}
use Rattle.device_reports.proofs.listed.list_manifests.Given as goal

abbrev pub invariant-loop-row : goal.invariant-loop-row
invariant-loop-row g l =
    Goes g.B.Source.told (g.S.Store.keeps l.fn.store (g.B.Board.view l.fn.board).now.disk.bytes)
    (string_bytes l.out ≡ heads_of (g.S.Store.state l.fn.store).rows (take l.row-index l.row-items))
    (g.B.Board.view l.fn.board) (g.B.Board.view l.board)
