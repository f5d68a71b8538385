use Rattle.std.proofs.Common.{sym, ap, ◌∙◌}
use Rattle.suit_envelope.specs.Plans.{first_strange}
use Rattle.suit_envelope.proofs.Strange.{found_in, none_in}
use Rattle.suit_envelope.proofs.indices.+indices.Goals as goal

pub index_in-returns-in-Some : goal.index_in-returns-in-Some
index_in-returns-in-Some t c =
    found_in c.args.count c.args.command.now c.in-TryEach.alternatives c.as_slice-sequence-items.result.now c.in-TryEach.null_last c.loop-sequence.sequence-index c.in-TryEach.is c.as_slice-sequence-items.ensures c.loop-sequence.invariant
    c.sequence-item.result _ c.in-Some.n c.loop-sequence-test.true c.sequence-item.is (ap (first_strange c.args.count) (sym c.as_slice.ensures) ∙ sym c.first_index.ensures ∙ c.in-Some.is)

pub index_in-returns-after-loop-sequence : goal.index_in-returns-after-loop-sequence
index_in-returns-after-loop-sequence t c =
    none_in c.args.count c.args.command.now c.in-TryEach.alternatives c.as_slice-sequence-items.result.now c.in-TryEach.null_last c.loop-sequence.sequence-index c.in-TryEach.is c.as_slice-sequence-items.ensures c.loop-sequence.invariant
    c.loop-sequence-test.false
