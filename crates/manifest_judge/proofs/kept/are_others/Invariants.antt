use Rattle.std.proofs.Common.{drop, ◌↔◌}
use Rattle.std.specs.List.{AllByRecursion}
use Rattle.manifest_judge.specs.Claims.{IsNoneOf}
use Rattle.manifest_judge.proofs.kept.are_others.Given as goal

abbrev pub invariant-loop-part : goal.invariant-loop-part
invariant-loop-part l = AllByRecursion (λ part. IsNoneOf l.ids part.id) (drop l.part-index l.parts) ↔ AllByRecursion (λ part. IsNoneOf l.ids part.id) l.parts
