use Rattle.std.proofs.Common.{◌≡◌, replicate}
use Rattle.suit_engine.specs.States.{untouched}
use Rattle.suit_engine.proofs.state.State.beginning.Given as goal

abbrev pub invariant-loop-at : goal.invariant-loop-at
invariant-loop-at l = l.parts ≡ replicate l._at untouched
