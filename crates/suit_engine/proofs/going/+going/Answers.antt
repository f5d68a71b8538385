use Rattle.std.proofs.Common.{◌≡◌, ◌+◌, List, drop, map, sym, ap, subst, ◌∙◌}
use Rattle.suit_commands.specs.declared.command.Command.{out-Command}
use Rattle.suit_commands.specs.declared.command.Command.TheVariants as commands
use Rattle.suit_commands.specs.Sequences.{Sequence}
use Rattle.suit_engine.specs.declared.place.Place.{Place}
use Rattle.suit_engine.specs.declared.place.Place.TheVariants as places
use Rattle.suit_engine.specs.declared.stop.Stop.{Stop}
use Rattle.suit_engine.specs.Steps.{Step, Fails, and_then, tried}
use Rattle.suit_engine.specs.Acts.{World, later, do_all}
use Rattle.suit_engine.specs.Places.{or_behind, from_command, from_alternative, in_tries, sequence_goes_on, command_goes_on}
use Rattle.suit_engine.specs.Answers.{Stops, Waits, Gives, tries}
use Rattle.suit_engine.proofs.Goings.{kept_place}
use Rattle.suit_engine.proofs.Suspending.{kept_went, kept_word, word_is, goes_through, seen_stops, suspends_as, suspends_same, run_goes_on, seen_from_sequence, seen_from_try}
use Rattle.suit_engine.proofs.Levels.{sequence_at, command_at, run_at, stops_then, alternative_at, past_fails, one_tried, others_tried}
use Rattle.suit_engine.proofs.going.+going.Goals as goal

pub go_on_sequence-returns-in-Command-clause-waits : goal.go_on_sequence-returns-in-Command-clause-waits
go_on_sequence-returns-in-Command-clause-waits t c =
    let all = c.args.commands.now in
    let n = c.in-Command.number in
    let within = c.into_inner.result in
    suspends_same c.args.world.now (λ w. sequence_goes_on w all) (λ w. from_command w n (λ command. command_goes_on w command within) all) (λ w. sequence_goes_on w all c.args.place)
    (λ more. sequence_at (later c.args.world.now more) all c.args.place n within (c.in-Command.is ∙ ap (λ (x : Place). places.Command n x) (sym c.into_inner.ensures)))
    c.go_on_from.result c.go_on_from.ensures.waits

pub go_on_from-returns-in-Ok-clause-waits : goal.go_on_from-returns-in-Ok-clause-waits
go_on_from-returns-in-Ok-clause-waits t c =
    let w = c.args.world.now in
    let all = c.args.commands.now in
    let n = c.args.number in
    let x = c.index-commands-number.result in
    let within = c.args.within in
    suspends_same w (λ v. sequence_goes_on v all) (λ v. do_all v (drop (n + 1) all) c.in-Ok.state) (λ v. from_command v n (λ command. command_goes_on v command within) all)
    (λ more.
    let v : World = later w more in
    sym (command_at v n (λ command. command_goes_on v command within) all x c.if-number-commands.false c.index-commands-number.is
    ∙ ap (and_then (do_all v (drop (n + 1) all))) (kept_went w.env (command_goes_on w x within) (command_goes_on v x within) c.in-Ok.state ((kept_place w more within).command x) c.in-Ok.ensures.gives)))
    c.run_from.result c.run_from.ensures.waits

pub go_on_from-returns-in-Err-clause-gives : goal.go_on_from-returns-in-Err-clause-gives
go_on_from-returns-in-Err-clause-gives t c =
    let w = c.args.world.now in
    let all = c.args.commands.now in
    let n = c.args.number in
    let x = c.index-commands-number.result in
    let within = c.args.within in
    let P : Step → Type 0 = λ step. Stops step c.at_command.result in
    let after : Step → Step = and_then (do_all w (drop (n + 1) all)) in
    subst P (sym (command_at w n (λ command. command_goes_on w command within) all x c.if-number-commands.false c.index-commands-number.is))
    (seen_stops (after (command_goes_on w x within)) (λ place. places.Command n place) c.in-Err.stop c.at_command.result
    (stops_then (do_all w (drop (n + 1) all)) (command_goes_on w x within) c.in-Err.stop c.in-Err.ensures.gives) c.at_command.ensures)

pub go_on_from-returns-in-Err-clause-waits : goal.go_on_from-returns-in-Err-clause-waits
go_on_from-returns-in-Err-clause-waits t c =
    let w = c.args.world.now in
    let all = c.args.commands.now in
    let n = c.args.number in
    let x = c.index-commands-number.result in
    let within = c.args.within in
    seen_from_sequence w all n x (λ v. command_goes_on v x within) (λ v. from_command v n (λ command. command_goes_on v command within) all)
    c.if-number-commands.false c.index-commands-number.is
    (λ more. let v : World = later w more in sym (command_at v n (λ command. command_goes_on v command within) all x c.if-number-commands.false c.index-commands-number.is))
    c.in-Err.stop c.at_command.result c.in-Err.ensures.waits c.at_command.ensures

pub go_on_command-returns-in-RunSequence-clause-gives : goal.go_on_command-returns-in-RunSequence-clause-gives
go_on_command-returns-in-RunSequence-clause-gives t c =
    let P : Step → Type 0 = λ step. Gives step c.go_on_from.result in
    subst P
    (run_at c.args.world.now c.args.command.now c.as_slice.result.now c.args.place c.in-Command.number c.into_inner.result
    (c.in-RunSequence.is ∙ ap (λ (cs : Sequence). commands.RunSequence cs) (sym c.as_slice.ensures))
    (c.in-Command.is ∙ ap (λ (x : Place). places.Command c.in-Command.number x) (sym c.into_inner.ensures)))
    c.go_on_from.ensures.gives

pub go_on_command-returns-in-RunSequence-clause-waits : goal.go_on_command-returns-in-RunSequence-clause-waits
go_on_command-returns-in-RunSequence-clause-waits t c =
    let w = c.args.world.now in
    let command = c.args.command.now in
    let all = c.as_slice.result.now in
    let n = c.in-Command.number in
    let within = c.into_inner.result in
    let is : command ≡ commands.RunSequence all = c.in-RunSequence.is ∙ ap (λ (cs : Sequence). commands.RunSequence cs) (sym c.as_slice.ensures) in
    suspends_as w (λ v. sequence_goes_on v all) (λ v. command_goes_on v command) (λ v. from_command v n (λ x. command_goes_on v x within) all) (λ v. command_goes_on v command c.args.place)
    (λ more place. ap (λ x. command_goes_on (later w more) x place) is ∙ run_goes_on (later w more) all place)
    (λ more. run_at (later w more) command all c.args.place n within is (c.in-Command.is ∙ ap (λ (x : Place). places.Command n x) (sym c.into_inner.ensures)))
    c.go_on_from.result c.go_on_from.ensures.waits

pub go_on_command-returns-in-Alternative-clause-waits : goal.go_on_command-returns-in-Alternative-clause-waits
go_on_command-returns-in-Alternative-clause-waits t c =
    let w = c.args.world.now in
    let command = c.args.command.now in
    let n = c.in-Alternative.number in
    let before = c.in-Alternative.before in
    let within = c.into_inner-in-Alternative.result in
    suspends_same w (λ v. command_goes_on v command) (λ v. in_tries (from_alternative v n before (λ cs. sequence_goes_on v cs within)) (out-Command command)) (λ v. command_goes_on v command c.args.place)
    (λ more. alternative_at (later w more) command c.args.place n before within (c.in-Alternative.is ∙ ap (λ (x : Place). places.Alternative n before x) (sym c.into_inner-in-Alternative.ensures)))
    c.go_on_alternative.result c.go_on_alternative.ensures.waits

pub go_on_alternative-returns-then-number-alternatives-clause-gives : goal.go_on_alternative-returns-then-number-alternatives-clause-gives
go_on_alternative-returns-then-number-alternatives-clause-gives t c =
    let w = c.args.world.now in
    let command = c.args.command.now in
    let sequences = c.as_slice-alternatives.result.now in
    let null_last = c.in-TryEach.null_last in
    let is : command ≡ commands.TryEach sequences null_last = c.in-TryEach.is ∙ ap (λ (ss : List Sequence). commands.TryEach ss null_last) (sym c.as_slice-alternatives.ensures) in
    let n = c.args.number in
    let before = c.args.before in
    let within = c.args.within in
    past_fails command sequences null_last is n before w (λ cs. sequence_goes_on w cs within) c.if-number-alternatives.true

pub go_on_alternative-returns-in-Ok-clause-gives : goal.go_on_alternative-returns-in-Ok-clause-gives
go_on_alternative-returns-in-Ok-clause-gives t c =
    let w = c.args.world.now in
    let command = c.args.command.now in
    let sequences = c.as_slice-alternatives.result.now in
    let null_last = c.in-TryEach.null_last in
    let is : command ≡ commands.TryEach sequences null_last = c.in-TryEach.is ∙ ap (λ (ss : List Sequence). commands.TryEach ss null_last) (sym c.as_slice-alternatives.ensures) in
    let n = c.args.number in
    let before = c.args.before in
    let within = c.args.within in
    let x = c.index-alternatives-number.result in
    let below = c.if-number-alternatives.false in
    let at = c.index-alternatives-number.is in
    one_tried command sequences null_last is n before x below at w (λ cs. sequence_goes_on w cs within)
    ∙ ap (or_behind w null_last before (drop (n + 1) sequences)) (ap (λ (cs : Sequence). sequence_goes_on w cs within) (sym c.as_slice.ensures) ∙ c.in-Ok.ensures.gives)

pub go_on_alternative-returns-in-Ok-caught-clause-gives : goal.go_on_alternative-returns-in-Ok-caught-clause-gives
go_on_alternative-returns-in-Ok-caught-clause-gives t c =
    let w = c.args.world.now in
    let command = c.args.command.now in
    let sequences = c.as_slice-alternatives.result.now in
    let null_last = c.in-TryEach.null_last in
    let is : command ≡ commands.TryEach sequences null_last = c.in-TryEach.is ∙ ap (λ (ss : List Sequence). commands.TryEach ss null_last) (sym c.as_slice-alternatives.ensures) in
    let n = c.args.number in
    let before = c.args.before in
    let within = c.args.within in
    let x = c.index-alternatives-number.result in
    let below = c.if-number-alternatives.false in
    let at = c.index-alternatives-number.is in
    let word = c.in-Ok-caught.word in
    let fails : sequence_goes_on w x within ≡ Fails word =
    ap (λ (cs : Sequence). sequence_goes_on w cs within) (sym c.as_slice.ensures)
    ∙ word_is (sequence_goes_on w c.as_slice.result.now within) c.in-Err.stop word c.in-Err.ensures.gives c.in-Ok-caught.ensures in
    let P : Step → Type 0 = λ step. Gives step c.try_from.result in
    subst P (sym (others_tried command sequences null_last is n before x below at w (λ cs. sequence_goes_on w cs within) word c.in-Ok-caught.ensures.1 fails)) c.try_from.ensures.gives

pub go_on_alternative-returns-in-Ok-caught-clause-waits : goal.go_on_alternative-returns-in-Ok-caught-clause-waits
go_on_alternative-returns-in-Ok-caught-clause-waits t c =
    let w = c.args.world.now in
    let command = c.args.command.now in
    let sequences = c.as_slice-alternatives.result.now in
    let null_last = c.in-TryEach.null_last in
    let is : command ≡ commands.TryEach sequences null_last = c.in-TryEach.is ∙ ap (λ (ss : List Sequence). commands.TryEach ss null_last) (sym c.as_slice-alternatives.ensures) in
    let n = c.args.number in
    let before = c.args.before in
    let within = c.args.within in
    let x = c.index-alternatives-number.result in
    let below = c.if-number-alternatives.false in
    let at = c.index-alternatives-number.is in
    let word = c.in-Ok-caught.word in
    let fails : sequence_goes_on w x within ≡ Fails word =
    ap (λ (cs : Sequence). sequence_goes_on w cs within) (sym c.as_slice.ensures)
    ∙ word_is (sequence_goes_on w c.as_slice.result.now within) c.in-Err.stop word c.in-Err.ensures.gives c.in-Ok-caught.ensures in
    suspends_same w (λ v. command_goes_on v command) (λ v. tries v command (n + 1) word before)
    (λ v. in_tries (from_alternative v n before (λ cs. sequence_goes_on v cs within)) (out-Command command))
    (λ more.
    let v : World = later w more in
    sym (others_tried command sequences null_last is n before x below at v (λ cs. sequence_goes_on v cs within) word c.in-Ok-caught.ensures.1
    (kept_word w.env (sequence_goes_on w x within) (sequence_goes_on v x within) word c.in-Ok-caught.ensures.1 ((kept_place w more within).sequence x) fails)))
    c.try_from.result c.try_from.ensures.waits

pub go_on_alternative-returns-in-Err-caught-clause-gives : goal.go_on_alternative-returns-in-Err-caught-clause-gives
go_on_alternative-returns-in-Err-caught-clause-gives t c =
    let w = c.args.world.now in
    let command = c.args.command.now in
    let sequences = c.as_slice-alternatives.result.now in
    let null_last = c.in-TryEach.null_last in
    let is : command ≡ commands.TryEach sequences null_last = c.in-TryEach.is ∙ ap (λ (ss : List Sequence). commands.TryEach ss null_last) (sym c.as_slice-alternatives.ensures) in
    let n = c.args.number in
    let before = c.args.before in
    let within = c.args.within in
    let x = c.index-alternatives-number.result in
    let below = c.if-number-alternatives.false in
    let at = c.index-alternatives-number.is in
    let P : Step → Type 0 = λ step. Stops step c.at_alternative.result in
    let Q : Sequence → Type 0 = λ cs. Stops (sequence_goes_on w cs within) c.in-Err.stop in
    let step : Step = sequence_goes_on w x within in
    subst P (sym (one_tried command sequences null_last is n before x below at w (λ cs. sequence_goes_on w cs within)))
    (seen_stops (or_behind w null_last before (drop (n + 1) sequences) step) (λ place. places.Alternative n before place) c.in-Err-caught.stop c.at_alternative.result
    (goes_through (λ word. tried null_last word (map (do_all w) (drop (n + 1) sequences)) before) step c.in-Err.stop c.in-Err-caught.stop (subst Q c.as_slice.ensures c.in-Err.ensures.gives) c.in-Err-caught.ensures)
    c.at_alternative.ensures)

pub go_on_alternative-returns-in-Err-caught-clause-waits : goal.go_on_alternative-returns-in-Err-caught-clause-waits
go_on_alternative-returns-in-Err-caught-clause-waits t c =
    let w = c.args.world.now in
    let command = c.args.command.now in
    let sequences = c.as_slice-alternatives.result.now in
    let null_last = c.in-TryEach.null_last in
    let is : command ≡ commands.TryEach sequences null_last = c.in-TryEach.is ∙ ap (λ (ss : List Sequence). commands.TryEach ss null_last) (sym c.as_slice-alternatives.ensures) in
    let n = c.args.number in
    let before = c.args.before in
    let within = c.args.within in
    let x = c.index-alternatives-number.result in
    let below = c.if-number-alternatives.false in
    let at = c.index-alternatives-number.is in
    let P : Sequence → Type 0 = λ cs. Waits w (λ v. sequence_goes_on v cs) (λ v. sequence_goes_on v cs within) c.in-Err.stop in
    let Q : Stop → Type 0 = λ stop. Waits w (λ v. sequence_goes_on v x) (λ v. sequence_goes_on v x within) stop in
    seen_from_try w command sequences null_last before n x (λ v. sequence_goes_on v x within)
    (λ v. in_tries (from_alternative v n before (λ cs. sequence_goes_on v cs within)) (out-Command command)) below at is
    (λ more. sym (one_tried command sequences null_last is n before x below at (later w more) (λ cs. sequence_goes_on (later w more) cs within)))
    c.in-Err-caught.stop c.at_alternative.result (subst Q (sym c.in-Err-caught.ensures.0) (subst P c.as_slice.ensures c.in-Err.ensures.waits)) c.at_alternative.ensures
