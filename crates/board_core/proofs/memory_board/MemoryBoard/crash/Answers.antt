use Rattle.std.proofs.Common.{◌≡◌, ◌∙◌, sym, subst, length, take, true, List, ℕ}
use Rattle.board_core.specs.Replay.{fits, all_fit}
use Rattle.board_core.specs.Stops.{StopLeaves}
use Rattle.board_core.specs.declared.call.Call.{Call}
use Rattle.board_core.proofs.Stopping.{calls_before_fit, stopped_fits, crash_inside, crash_left, crash_of, only_one, if_ok, present, present_left}
use Rattle.board_core.proofs.memory_board.MemoryBoard.crash.Goals as goal

pub stopped-requires-clause-fit : goal.stopped-requires-clause-fit
stopped-requires-clause-fit c =
    let h = c.args.self.now.history in
    subst (λ (l : List Call). all_fit (length c.as_slice-first.result.now) (take c.args.call l) ≡ true) (sym c.as_slice-calls.ensures)
    (subst (λ (l : List ℕ). all_fit (length l) (take c.args.call h.calls) ≡ true) (sym c.as_slice-first.ensures)
    (calls_before_fit h c.args.call c.in-Some.inside.now (sym c.in-Some.ensures.value)))

pub stopped-requires-clause-call_fits : goal.stopped-requires-clause-call_fits
stopped-requires-clause-call_fits c =
    subst (λ (l : List ℕ). fits (length l) c.in-Some.inside.now ≡ true) (sym c.as_slice-first.ensures)
    (stopped_fits c.args.self.now.history c.args.call c.in-Some.inside.now (sym c.in-Some.ensures.value))

pub returns-in-Some-clause-inside : goal.returns-in-Some-clause-inside
returns-in-Some-clause-inside c = λ d is.
    let h = c.args.self.now.history in
    let x = c.in-Some.inside.now in
    let one = sym c.in-Some.ensures.value in
    if_ok c.stopped.result c.stopped.ensures (λ pair left.
    crash_inside h c.args.call d is c.from_mode-stop.result pair.0 pair.1
    (subst (λ (e : Call). StopLeaves c.from_mode-stop.result h.first (take c.args.call h.calls) e pair.0 pair.1) (only_one h c.args.call x d one is)
    (crash_of h c.args.call x one c.from_mode-stop.result _ _ pair.0 pair.1 c.as_slice-first.ensures c.as_slice-calls.ensures left)))

pub returns-in-Some-clause-left : goal.returns-in-Some-clause-left
returns-in-Some-clause-left c =
    let h = c.args.self.now.history in
    let x = c.in-Some.inside.now in
    let one = sym c.in-Some.ensures.value in
    if_ok c.stopped.result c.stopped.ensures (λ pair left.
    crash_left h c.args.call x one c.from_mode-stop.result pair.0 pair.1
    (crash_of h c.args.call x one c.from_mode-stop.result _ _ pair.0 pair.1 c.as_slice-first.ensures c.as_slice-calls.ensures left))

pub returns-in_ok-image-in-None-clause-present : goal.returns-in_ok-image-in-None-clause-present
returns-in_ok-image-in-None-clause-present c = λ past.
    present c.args.self.now.history _ _ c.as_slice-calls.result.now c.as_slice-calls.ensures c.in_ok-sent-in-None.ensures (c.in_ok-image-in-None.ensures ∙ c.deref.ensures.value)

pub returns-in_ok-image-in-None-clause-left : goal.returns-in_ok-image-in-None-clause-left
returns-in_ok-image-in-None-clause-left c =
    present_left c.args.self.now.history _ _ c.as_slice-calls.result.now c.as_slice-calls.ensures c.in_ok-sent-in-None.ensures (c.in_ok-image-in-None.ensures ∙ c.deref.ensures.value) c.args.call
