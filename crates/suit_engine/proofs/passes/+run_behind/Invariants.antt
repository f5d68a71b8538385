use Rattle.std.proofs.Common.{length}
use Rattle.suit_engine.specs.Passes.{behind}
use Rattle.suit_engine.proofs.passes.+run_behind.Given as goal

abbrev pub decreases-run_behind : goal.decreases-run_behind
decreases-run_behind l = length (behind l.pass)
