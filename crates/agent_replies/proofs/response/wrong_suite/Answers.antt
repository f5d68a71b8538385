use Rattle.std.proofs.Common.{None, sym, subst}
use Rattle.teep_messages.specs.Proper.{IsProperMessage}
use Rattle.agent_replies.proofs.Proper.{error_proper, is_written, wrong_suite_is}
use Rattle.agent_replies.proofs.response.wrong_suite.Goals as goal

pub written-requires : goal.written-requires
written-requires c =
    subst IsProperMessage (sym (wrong_suite_is c.args.token.now c.in_ok-echoed.echoed c.error_of.result c.in_ok-echoed.ensures c.error_of.ensures))
    (error_proper None c.args.token.now 5 c.requires)

pub returns : goal.returns
returns c =
    is_written c.error_of.result _ c.written.result (wrong_suite_is c.args.token.now c.in_ok-echoed.echoed c.error_of.result c.in_ok-echoed.ensures c.error_of.ensures) c.written.ensures
