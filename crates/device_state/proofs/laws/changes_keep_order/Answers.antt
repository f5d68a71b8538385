use Rattle.device_state.proofs.Orders as orders
use Rattle.device_state.proofs.laws.changes_keep_order.Goals as goal

pub returns : goal.returns
returns c = orders.changes_keep_order
