use Rattle.device_image.proofs.States as laws
use Rattle.device_image.proofs.laws.one_state.Goals as goal

pub returns : goal.returns
returns c = laws.one_state c.one_list.ensures.one
