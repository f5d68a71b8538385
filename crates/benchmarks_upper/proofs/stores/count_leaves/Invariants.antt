use Rattle.std.proofs.Common.{◌≡◌}
use Rattle.component_store.specs.Stores.{extent}
use Rattle.benchmarks_upper.proofs.stores.count_leaves.Given as goal

abbrev pub invariant-loop-round : goal.invariant-loop-round
invariant-loop-round g l = (g.B.Board.view l.board).extent ≡ extent l.store
