use Rattle.std.proofs.Common.{sym, ◌∙◌}
use Rattle.device_state.proofs.Strings.{identifier, not_refused}
use Rattle.device_state.proofs.identifier.is_identifier.Goals as goal

pub returns-then-count-gt0 : goal.returns-then-count-gt0
returns-then-count-gt0 c =
    let item = c.check_whole.ensures.found.0 (not_refused c.check_whole.result (sym c.is_err.ensures.value ∙ c.if-is_err.false)) in
    identifier c.args.bytes.now item.0 c.in-Some.count c.in-Some.members.now c.are_strings.result item.1 (c.in-Some.ensures item.0 item.1) c.if-count-gt0.true c.are_strings.ensures
