use Rattle.std.proofs.Common.{[], ◌∷◌, Some, sym, subst}
use Rattle.teep_messages.specs.Proper.{IsProperMessage}
use Rattle.agent_replies.proofs.Proper.{error_proper, is_written, wrong_version_is}
use Rattle.agent_replies.proofs.response.wrong_version.Goals as goal

pub written-requires : goal.written-requires
written-requires c =
    subst IsProperMessage
    (sym (wrong_version_is c.args.token.now c.in_ok-echoed.echoed c.push.new.self c.new-versions.result c.error_of.result c.in_ok-echoed.ensures c.new-versions.ensures c.in_ok-push.ensures.ok c.error_of.ensures))
    (error_proper (Some (0 ∷ [])) c.args.token.now 4 c.requires)

pub returns : goal.returns
returns c =
    is_written c.error_of.result _ c.written.result
    (wrong_version_is c.args.token.now c.in_ok-echoed.echoed c.push.new.self c.new-versions.result c.error_of.result c.in_ok-echoed.ensures c.new-versions.ensures c.in_ok-push.ensures.ok c.error_of.ensures)
    c.written.ensures
