use Rattle.std.proofs.Common.{◌≡◌, List, subst}
use Rattle.std.specs.Prelude.{Ok}
use Rattle.cbor_core.specs.declared.item.Pair.{Pair}
use Rattle.cbor_core.specs.Views.{field}
use Rattle.suit_envelope.specs.Plans.{member_sequence}
use Rattle.suit_envelope.proofs.Strange.{indexed_answers}
use Rattle.suit_envelope.proofs.commands.read_member_indexed.Goals as goal

pub returns : goal.returns
returns c =
    let at = subst (λ (ps : List Pair). member_sequence (field c.args.label ps) ≡ Ok c.in_ok-sequence.sequence) c.as_slice.ensures c.in_ok-sequence.ensures in
    indexed_answers _ c.indexed.result c.in_ok-sequence.sequence _ c.len.result at c.len.ensures c.indexed.ensures
