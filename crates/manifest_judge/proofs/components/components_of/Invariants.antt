use Rattle.std.proofs.Common.{◌≡◌, ◌+◌, length}
use Rattle.std.specs.Vec.Iter.{into_iter_items, into_iter_len}
use Rattle.manifest_judge.proofs.Making.{Going}
use Rattle.manifest_judge.proofs.components.components_of.Given as goal

abbrev pub invariant-loop-built : goal.invariant-loop-built
invariant-loop-built l = record {
  going : Going l.ids l.fn.built l.place (into_iter_items l.built-iterator) l.components;
  size : l.place + into_iter_len l.built-iterator ≡ length l.ids;
}
