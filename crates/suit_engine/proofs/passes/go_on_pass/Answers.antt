use Rattle.std.proofs.Common.{subst}
use Rattle.suit_commands.specs.Sequences.{Sequence}
use Rattle.suit_engine.specs.Places.{sequence_goes_on}
use Rattle.suit_engine.specs.Answers.{Suspends}
use Rattle.suit_engine.proofs.passes.go_on_pass.Goals as goal

pub returns-clause-waits : goal.returns-clause-waits
returns-clause-waits c =
    let P : Sequence → Type 0 = λ cs. Suspends c.args.world.now (λ w. sequence_goes_on w cs) (λ w. sequence_goes_on w cs c.args.place) c.go_on_sequence.result in
    subst P c.sequence.ensures c.go_on_sequence.ensures.waits
