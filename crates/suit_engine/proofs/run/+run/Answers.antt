use Rattle.std.proofs.Common.{◌≡◌, List, drop, sym, ap, subst, ◌∙◌}
use Rattle.suit_commands.specs.declared.command.Command.TheVariants as commands
use Rattle.suit_commands.specs.Sequences.{Sequence}
use Rattle.suit_engine.specs.declared.outcome.Word.TheVariants.{Condition}
use Rattle.suit_engine.specs.declared.state.State.{State}
use Rattle.suit_engine.specs.declared.stop.Stop.{Stop}
use Rattle.suit_engine.specs.Acts.{later, does, do_all}
use Rattle.suit_engine.specs.Places.{command_goes_on, sequence_goes_on}
use Rattle.suit_engine.specs.Answers.{Waits, Suspends, tries}
use Rattle.suit_engine.proofs.Tries.{tries_do, tries_give}
use Rattle.suit_engine.proofs.Suspending.{suspends_same, runs_suspend, command_done, alternative_failed, word_is, commands_from, alternatives_from, seen_from_sequence, seen_from_try}
use Rattle.suit_engine.proofs.run.+run.Goals as goal

pub run_command-returns-in-TryEach-clause-gives : goal.run_command-returns-in-TryEach-clause-gives
run_command-returns-in-TryEach-clause-gives t c =
    tries_give c.args.world.now c.args.command.now c.in-TryEach.alternatives c.in-TryEach.null_last c.args.state c.try_from.result c.in-TryEach.is c.try_from.ensures.gives

pub run_command-returns-in-TryEach-clause-waits : goal.run_command-returns-in-TryEach-clause-waits
run_command-returns-in-TryEach-clause-waits t c =
    let command = c.args.command.now in
    suspends_same c.args.world.now (λ w. command_goes_on w command) (λ w. tries w command 0 Condition c.args.state) (λ w. does w command c.args.state)
    (λ more. tries_do (later c.args.world.now more) command c.in-TryEach.alternatives c.in-TryEach.null_last c.args.state c.in-TryEach.is) c.try_from.result c.try_from.ensures.waits

pub run_command-returns-in-RunSequence-clause-waits : goal.run_command-returns-in-RunSequence-clause-waits
run_command-returns-in-RunSequence-clause-waits t c =
    let P : Sequence → Type 0 = λ cs. Suspends c.args.world.now (λ w. sequence_goes_on w cs) (λ w. do_all w cs c.args.state) c.run_from.result in
    runs_suspend c.args.world.now c.args.command.now c.in-RunSequence.commands c.args.state c.run_from.result c.in-RunSequence.is (subst P c.as_slice.ensures c.run_from.ensures.waits)

pub run_from-returns-in-Err-clause-waits : goal.run_from-returns-in-Err-clause-waits
run_from-returns-in-Err-clause-waits t c =
    let all = c.args.commands.now in
    let x = c.index-commands-number.result in
    let state = c.loop-number.state in
    seen_from_sequence c.args.world.now all c.loop-number.number x (λ w. does w x state) (λ w. do_all w (drop c.args.first all) c.args.state)
    c.loop-number-test.true c.index-commands-number.is
    (λ more. sym (commands_from (later c.args.world.now more) all c.loop-number.number x state c.loop-number-test.true c.index-commands-number.is) ∙ c.loop-number.invariant.then more)
    c.in-Err.stop c.at_command.result c.in-Err.ensures.waits c.at_command.ensures

pub run_from-loop-number-preserved : goal.run_from-loop-number-preserved
run_from-loop-number-preserved t c =
    let all = c.args.commands.now in
    command_done c.args.world.now all c.loop-number.number c.index-commands-number.result c.loop-number.state c.in-Ok.next
    (λ w. do_all w (drop c.args.first all) c.args.state) c.loop-number-test.true c.index-commands-number.is c.in-Ok.ensures.gives c.loop-number.invariant

pub try_from-returns-in-Err-caught-clause-waits : goal.try_from-returns-in-Err-caught-clause-waits
try_from-returns-in-Err-caught-clause-waits t c =
    let w = c.args.world.now in
    let alternatives = c.as_slice-alternatives.result.now in
    let x = c.index-alternatives-number.result in
    let n = c.loop-number.number in
    let P : Sequence → Type 0 = λ cs. Waits w (λ v. sequence_goes_on v cs) (λ v. do_all v cs c.in_ok-state.state) c.in-Err.stop in
    let Q : State → Type 0 = λ s. Waits w (λ v. sequence_goes_on v x) (λ v. do_all v x s) c.in-Err.stop in
    let R : Stop → Type 0 = λ stop. Waits w (λ v. sequence_goes_on v x) (λ v. do_all v x c.args.before) stop in
    seen_from_try w c.args.command.now alternatives c.in-TryEach.null_last c.args.before n x (λ v. do_all v x c.args.before) (λ v. tries v c.args.command.now c.args.first c.args.word c.args.before)
    c.loop-number-test.true c.index-alternatives-number.is (c.in-TryEach.is ∙ ap (λ (ss : List Sequence). commands.TryEach ss c.in-TryEach.null_last) (sym c.as_slice-alternatives.ensures))
    (λ more. sym (alternatives_from (later w more) c.in-TryEach.null_last c.loop-number.word alternatives n x c.args.before c.loop-number-test.true c.index-alternatives-number.is) ∙ c.loop-number.invariant.then more)
    c.in-Err-caught.stop c.at_alternative.result
    (subst R (sym c.in-Err-caught.ensures.0) (subst Q c.in_ok-state.ensures (subst P c.as_slice.ensures c.in-Err.ensures.waits))) c.at_alternative.ensures

pub try_from-loop-number-preserved : goal.try_from-loop-number-preserved
try_from-loop-number-preserved t c =
    let w = c.args.world.now in
    let x = c.index-alternatives-number.result in
    let word = c.in-Ok-caught.caught in
    let same : do_all w c.as_slice.result.now c.in_ok-state.state ≡ do_all w x c.args.before =
    ap (λ (cs : Sequence). do_all w cs c.in_ok-state.state) c.as_slice.ensures ∙ ap (λ (s : State). do_all w x s) c.in_ok-state.ensures in
    alternative_failed w c.in-TryEach.null_last c.loop-number.word word c.as_slice-alternatives.result.now c.loop-number.number x c.args.before
    (λ v. tries v c.args.command.now c.args.first c.args.word c.args.before) c.loop-number-test.true c.index-alternatives-number.is
    (sym same ∙ word_is (do_all w c.as_slice.result.now c.in_ok-state.state) c.in-Err.stop word c.in-Err.ensures.gives c.in-Ok-caught.ensures) c.in-Ok-caught.ensures.1 c.loop-number.invariant
