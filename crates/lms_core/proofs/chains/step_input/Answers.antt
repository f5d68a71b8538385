use Rattle.lms_core.proofs.Inputs.{five_parts}
use Rattle.lms_core.proofs.chains.step_input.Goals as goal

pub returns : goal.returns
returns c =
    five_parts c.place.new.input c.place-2.new.input c.place-3.new.input c.place-4.new.input c.place-5.new.input _ _ _ _ _ _ c.args.j
    c.place-5.ensures.length c.to_be_bytes.ensures c.to_be_bytes-2.ensures c.place.ensures.front c.place-2.ensures.front c.place-3.ensures.front c.place-4.ensures.front c.place-5.ensures.front
