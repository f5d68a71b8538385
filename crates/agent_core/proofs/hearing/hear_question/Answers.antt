use Rattle.agent_core.proofs.Hears.{question_says}
use Rattle.agent_core.proofs.hearing.hear_question.Goals as goal

pub returns : goal.returns
returns g c = question_says _ c.config.result.now c.rows_of-rows.result.now c.args.asked.now c.args.suites.now c.args.profiles.now c.args.items c.as_slice-token.result.now
    c.in_ok-answer.answer.ready c.in_ok-answer.answer.message c.in_ok-session.session
    c.config.ensures.config c.rows_of-rows.ensures.rows (cc) (c.is_spent.ensures.left c.if-is_spent.false) c.in_ok-answer.ensures.message c.in_ok-answer.ensures.ready c.in_ok-session.ensures
