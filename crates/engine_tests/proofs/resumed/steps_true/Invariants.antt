use Rattle.suit_engine.specs.Suspended.{GoesOn}
use Rattle.engine_tests.proofs.resumed.steps_true.Given as goal

abbrev pub invariant-loop-step : goal.invariant-loop-step
invariant-loop-step l = GoesOn l.waiting l.env
