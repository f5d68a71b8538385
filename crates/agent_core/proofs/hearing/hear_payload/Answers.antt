use Rattle.std.proofs.Common.{refl}
use Rattle.agent_core.proofs.Hears.{hears_no_message}
use Rattle.agent_core.proofs.Tokens.{read_token}
use Rattle.agent_core.proofs.hearing.hear_payload.Goals as goal

pub hear_read-requires : goal.hear_read-requires
hear_read-requires g c = read_token c.in-Ok.message c.args.payload.now c.in-Ok.ensures.found

pub returns-in-Err : goal.returns-in-Err
returns-in-Err g c = hears_no_message _ c.args.payload.now c.in-Err.fault c.refuse_message.result (c.in-Err.ensures.bad c.in-Err.fault refl) c.refuse_message.ensures
