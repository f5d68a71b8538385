use Rattle.std.proofs.Common.{ap, ◌∙◌, arith}
use Rattle.device_image.specs.Held.{state_of}
use Rattle.component_store.specs.Keeping.{Log}
use Rattle.component_store.proofs.Gathering.{is_ready}
use Rattle.component_store.proofs.log_store.LogStore.gathered.Goals as goal

pub returns-clause-ready : goal.returns-clause-ready
returns-clause-ready c =
    let state = c.framing.ensures.same.state ∙ c.reserve.ensures.same.state ∙ ap (λ (log : Log). state_of log.held) c.self.view_is in
    is_ready c.args.self.now c.framing.new.self c.args.change.now c.in_ok-change.change c.args.heads c.args.weight c.in_ok-framing.framing state c.in_ok-change.ensures
    c.requires.may c.requires.valid c.requires.heads c.requires.weight
    (rw c.framing.ensures.rows (omega (arith, c.in_ok-reserve.ensures.room, c.len.ensures))) c.in_ok-framing.ensures.framed
