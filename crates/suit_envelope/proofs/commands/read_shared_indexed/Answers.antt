use Rattle.suit_envelope.proofs.Strange.{indexed_answers}
use Rattle.suit_envelope.proofs.commands.read_shared_indexed.Goals as goal

pub returns : goal.returns
returns c = indexed_answers _ c.indexed.result c.in_ok-sequence.sequence _ c.len.result c.in_ok-sequence.ensures c.len.ensures c.indexed.ensures
