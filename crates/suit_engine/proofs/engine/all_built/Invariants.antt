use Rattle.std.proofs.Common.{◌≡◌, map, take}
use Rattle.suit_engine.specs.Runs.{built}
use Rattle.suit_engine.proofs.engine.all_built.Given as goal

abbrev pub invariant-loop-part : goal.invariant-loop-part
invariant-loop-part l = l.all ≡ map built (take l.part-index l.parts)
