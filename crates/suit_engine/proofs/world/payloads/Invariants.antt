use Rattle.std.proofs.Common.{◌≡◌, take}
use Rattle.suit_engine.proofs.world.payloads.Given as goal

abbrev pub invariant-loop-one : goal.invariant-loop-one
invariant-loop-one l = l.payloads ≡ take l.one-index l.one-items
