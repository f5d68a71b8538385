use Rattle.std.proofs.Common.{◌∙◌, ap, subst, sym}
use Rattle.agent_core.specs.declared.session.Session.{Session}
use Rattle.agent_core.specs.Turns.{Turn, StandsFor}
use Rattle.turn_loop.specs.Outcome.{Answered}
use Rattle.agent_run.specs.Statuses.{status_of}
use Rattle.agent_run.specs.Outcome.{RunCause}
use Rattle.agent_run.specs.declared.status.Status.{Status}
use Rattle.agent_run.proofs.Caused.{memory_blamed, run_cause}
use Rattle.agent_run.proofs.run.run_device.Goals as goal

pub returns-clause-exactly : goal.returns-clause-exactly
returns-clause-exactly g c = λ told clean kept nothing memory frames end events.
    let done = c.run_frames.ensures.exactly told clean kept nothing (λ is. memory (c.from.ensures ∙ memory_blamed c.run_frames.result is)) frames end events in
    record {
      status_is = c.from.ensures ∙ ap status_of done.stop_is;
      answered = subst (λ (x : Session). Answered Turn StandsFor (record { state = g.S.Store.state c.args.agent.store; session = x }) frames (g.B.Board.view c.args.board.now).now.stream.sent (g.B.Board.view c.run_frames.new.board)) c.requires.closed done.answered;
    }

pub returns-clause-cause : goal.returns-clause-cause
returns-clause-cause g c =
    subst (λ (t : Status). RunCause t (g.B.Board.view c.args.board.now) (g.B.Board.view c.run_frames.new.board)) (sym c.from.ensures) (run_cause c.run_frames.result c.run_frames.ensures.cause)
