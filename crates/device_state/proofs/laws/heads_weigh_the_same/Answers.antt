use Rattle.device_state.proofs.Orders as orders
use Rattle.device_state.proofs.laws.heads_weigh_the_same.Goals as goal

pub returns : goal.returns
returns c = orders.heads_weigh_the_same
