use Rattle.suit_commands.proofs.Order.{refused_in_order}
use Rattle.suit_commands.proofs.laws.refused_in_order.Goals as goal

pub returns : goal.returns
returns c = refused_in_order
