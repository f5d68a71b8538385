use Rattle.std.proofs.Common.{subst}
use Rattle.suit_commands.specs.Sequences.{Sequence}
use Rattle.suit_engine.specs.declared.state.State.{State}
use Rattle.suit_engine.specs.Acts.{do_all}
use Rattle.suit_engine.specs.Places.{sequence_goes_on}
use Rattle.suit_engine.specs.Runs.{sequence_of}
use Rattle.suit_engine.specs.Answers.{Suspends}
use Rattle.suit_engine.proofs.passes.run_pass.Goals as goal

pub returns-clause-waits : goal.returns-clause-waits
returns-clause-waits c =
    let w = c.args.world.now in
    let P : Sequence → Type 0 = λ cs. Suspends w (λ v. sequence_goes_on v cs) (λ v. do_all v cs c.at_index.result) c.run_from.result in
    let all : Sequence = sequence_of c.args.plan.now c.args.pass in
    let Q : State → Type 0 = λ s. Suspends w (λ v. sequence_goes_on v all) (λ v. do_all v all s) c.run_from.result in
    subst Q c.at_index.ensures (subst P c.sequence.ensures c.run_from.ensures.waits)
