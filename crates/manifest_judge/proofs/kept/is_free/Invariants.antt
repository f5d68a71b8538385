use Rattle.std.proofs.Common.{drop, ◌↔◌}
use Rattle.std.specs.List.{AllByRecursion}
use Rattle.manifest_judge.specs.Claims.{LeavesFree}
use Rattle.manifest_judge.proofs.kept.is_free.Given as goal

abbrev pub invariant-loop-row : goal.invariant-loop-row
invariant-loop-row l = AllByRecursion (LeavesFree l.manifest.id l.manifest.components) (drop l.row-index l.rows) ↔ AllByRecursion (LeavesFree l.manifest.id l.manifest.components) l.rows
