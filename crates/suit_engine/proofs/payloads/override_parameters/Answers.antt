use Rattle.std.proofs.Common.{refl}
use Rattle.suit_engine.specs.States.{current, with_given}
use Rattle.suit_engine.proofs.Parts.{absent}
use Rattle.suit_engine.proofs.payloads.override_parameters.Goals as goal

pub returns-in-None-clause-gives : goal.returns-in-None-clause-gives
returns-in-None-clause-gives c = absent c.args.state (with_given c.args.given.now (current c.args.state)) (c.in-None.ensures.past refl)
