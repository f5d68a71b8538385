use Rattle.std.proofs.Common.{drop, ◌↔◌}
use Rattle.std.specs.List.{AllByRecursion}
use Rattle.device_state.specs.Valid.{IsRow}
use Rattle.device_state.proofs.sound.are_rows.Given as goal

abbrev pub invariant-loop-row : goal.invariant-loop-row
invariant-loop-row l = AllByRecursion IsRow (drop l.row-index l.rows) ↔ AllByRecursion IsRow l.rows
