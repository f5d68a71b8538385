use Rattle.std.proofs.Common.{drop, ◌↔◌}
use Rattle.std.specs.List.{AllByRecursion}
use Rattle.manifest_judge.specs.Claims.{IsAbove}
use Rattle.manifest_judge.proofs.kept.is_newer.Given as goal

abbrev pub invariant-loop-row : goal.invariant-loop-row
invariant-loop-row l = AllByRecursion (IsAbove l.manifest) (drop l.row-index l.rows) ↔ AllByRecursion (IsAbove l.manifest) l.rows
