use Rattle.std.proofs.Common.{◌≡◌, take}
use Rattle.suit_engine.proofs.state.State.share.Given as goal

abbrev pub invariant-loop-part : goal.invariant-loop-part
invariant-loop-part l = l.parts ≡ take l.part-index l.part-items
