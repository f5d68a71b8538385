use Rattle.std.proofs.Common.{map, drop}
use Rattle.suit_engine.specs.Steps.{tried}
use Rattle.suit_engine.specs.Acts.{do_all}
use Rattle.suit_engine.specs.Answers.{tries}
use Rattle.suit_engine.proofs.Suspending.{Same}
use Rattle.suit_engine.proofs.run.+run.Given as goal

abbrev pub invariant-run_from-loop-number : goal.invariant-run_from-loop-number
invariant-run_from-loop-number l = Same l.world (λ w. do_all w (drop l.number l.commands) l.state) (λ w. do_all w (drop l.first l.commands) l.initial.state)

abbrev pub invariant-try_from-loop-number : goal.invariant-try_from-loop-number
invariant-try_from-loop-number l =
    Same l.world (λ w. tried l.null_last l.word (map (do_all w) (drop l.number l.alternatives)) l.before) (λ w. tries w l.command l.first l.initial.word l.before)
