use Rattle.std.proofs.Common.{◌≢◌, drop, ◌↔◌}
use Rattle.std.specs.List.{AllByRecursion}
use Rattle.manifest_judge.proofs.kept.is_none_of.Given as goal

abbrev pub invariant-loop-other : goal.invariant-loop-other
invariant-loop-other l = AllByRecursion (λ other. other ≢ l.id) (drop l.other-index l.ids) ↔ AllByRecursion (λ other. other ≢ l.id) l.ids
