use Rattle.std.proofs.Common.{subst, sym}
use Rattle.frames.specs.Frames.{Frame}
use Rattle.turn_loop.specs.Turning.{TurnsTo}
use Rattle.agent_core.specs.Turns.{Turn}
use Rattle.agent_core.specs.Views.{AgentView, standing}
use Rattle.agent_core.proofs.agent.Agent.deliver.Goals as goal

pub returns-in_err-reply-clause-moments : goal.returns-in_err-reply-clause-moments
returns-in_err-reply-clause-moments g c = rw (sym c.self.view_is) (c.turn.ensures.moments (record { kind = c.args.kind; body = c.args.body }) (sym c.event_of-event.ensures))

pub returns-clause-turns : goal.returns-clause-turns
returns-clause-turns g c =
    let frame : Frame = record { kind = c.args.kind; body = c.args.body } in
    rw (sym c.self.view_is) (
    subst (λ (a : AgentView _). TurnsTo Turn (record { state = g.S.Store.state c.self.inside.store; session = c.self.inside.session }) frame (standing g.S.Store.state a) c.in_ok-reply.reply)
    (sym c.self-2.view_is) (c.in_ok-reply.ensures.turns frame (sym c.event_of-event.ensures))
    )

pub returns-clause-moments : goal.returns-clause-moments
returns-clause-moments g c = rw (sym c.self.view_is) (c.turn.ensures.moments (record { kind = c.args.kind; body = c.args.body }) (sym c.event_of-event.ensures))
