use Rattle.std.proofs.Common.{◌≡◌, ◌++◌, take, string_bytes}
use Rattle.std.specs.List.{flat_map}
use Rattle.device_reports.specs.Listing.{manifest_line, part_of}
use Rattle.device_reports.proofs.Going.{Goes}
use Rattle.device_reports.proofs.listed.list_manifest.Given as goal

abbrev pub invariant-loop-part : goal.invariant-loop-part
invariant-loop-part g l =
    Goes g.B.Source.told (g.S.Store.keeps l.fn.store (g.B.Board.view l.fn.board).now.disk.bytes)
    (string_bytes l.out ≡ string_bytes l.fn.out ++ (manifest_line l.fn.row.id l.fn.row.sequence l.fn.row.present ++ flat_map (part_of (g.S.Store.state l.fn.store).rows) (take l.part-index l.part-items)))
    (g.B.Board.view l.fn.board) (g.B.Board.view l.board)
