use Rattle.agent_core.specs.declared.hearing.Heard.TheVariants as heard
use Rattle.agent_core.specs.Answers.{Answers}
use Rattle.agent_core.specs.Hearing.{Hears}
use Rattle.agent_core.specs.Views.{standing}
use Rattle.agent_core.proofs.Turning.{refusal_turns, message_turns, message_moments}
use Rattle.agent_core.proofs.agent.Agent.turn.Goals as goal

pub returns-in-Ok-Refused-clause-turns : goal.returns-in-Ok-Refused-clause-turns
returns-in-Ok-Refused-clause-turns g c = λ frame brings.
    let h : Hears (g.S.Store.state c.args.self.now.store) (Answers (g.S.Store.state c.args.self.now.store) c.args.event.now) (heard.Refused c.in-Ok-Refused.refusal) =
    rw (← c.self.view_is) (rw c.in-Ok-Refused.field-0-is at c.in-Ok-Refused.ensures) in
    refusal_turns (standing g.S.Store.state c.args.self.now) c.args.event.now c.in-Ok-Refused.refusal frame c.refuse.result brings h c.refuse.ensures.bytes

pub returns-in-Ok-Says-clause-turns : goal.returns-in-Ok-Says-clause-turns
returns-in-Ok-Says-clause-turns g c = λ frame brings.
    let h : Hears (g.S.Store.state c.args.self.now.store) (Answers (g.S.Store.state c.args.self.now.store) c.args.event.now) (heard.Says c.as_slice.result.now c.in-Ok-Says.session) =
    rw (← c.self.view_is, c.as_slice.ensures) (rw c.in-Ok-Says.field-0-is at c.in-Ok-Says.ensures) in
    message_turns (standing g.S.Store.state c.args.self.now) (standing g.S.Store.state c.say.new.self) c.args.event.now c.as_slice.result.now c.in-Ok-Says.session frame c.say.result
    brings h c.say.ensures.carries c.say.ensures.used

pub returns-in-Ok-Says-clause-moments : goal.returns-in-Ok-Says-clause-moments
returns-in-Ok-Says-clause-moments g c = λ frame brings told clean keeps.
    let h : Hears (g.S.Store.state c.args.self.now.store) (Answers (g.S.Store.state c.args.self.now.store) c.args.event.now) (heard.Says c.as_slice.result.now c.in-Ok-Says.session) =
    rw (← c.self.view_is, c.as_slice.ensures) (rw c.in-Ok-Says.field-0-is at c.in-Ok-Says.ensures) in
    message_moments (standing g.S.Store.state c.args.self.now) c.args.event.now c.as_slice.result.now c.in-Ok-Says.session frame (g.B.Board.view c.args.board.now) (g.B.Board.view c.say.new.board)
    brings h (c.say.ensures.moments told clean keeps)
