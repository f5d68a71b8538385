use Rattle.std.proofs.Common.{sym, subst}
use Rattle.teep_messages.specs.Proper.{IsProperMessage}
use Rattle.agent_replies.proofs.Proper.{is_written, reported_identified, response_is, response_proper}
use Rattle.agent_replies.proofs.response.respond.Goals as goal

pub written-requires : goal.written-requires
written-requires c =
    subst IsProperMessage
    (sym (response_is c.args.ids.now c.args.rows.now c.args.asked.now c.args.items c.args.token.now c.bound_to.result.now c.in_ok-echoed.echoed c.in_ok-evidence.evidence c.in_ok-reported.reported c.in_ok-format.format c.response_of.result
    c.bound_to.ensures c.in_ok-echoed.ensures c.in_ok-evidence.ensures c.in_ok-reported.ensures c.in_ok-format.ensures c.response_of.ensures))
    (response_proper _ _ _ c.args.token.now c.requires.token (reported_identified c.args.items c.args.rows.now c.requires.ids))

pub returns : goal.returns
returns c =
    is_written c.response_of.result _ c.written.result
    (response_is c.args.ids.now c.args.rows.now c.args.asked.now c.args.items c.args.token.now c.bound_to.result.now c.in_ok-echoed.echoed c.in_ok-evidence.evidence c.in_ok-reported.reported c.in_ok-format.format c.response_of.result
    c.bound_to.ensures c.in_ok-echoed.ensures c.in_ok-evidence.ensures c.in_ok-reported.ensures c.in_ok-format.ensures c.response_of.ensures)
    c.written.ensures
