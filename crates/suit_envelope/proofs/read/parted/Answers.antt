use Rattle.std.proofs.Common.{sym, ◌∙◌, ap, ◌++◌, List, [], ◌∷◌}
use Rattle.cbor_core.specs.declared.item.Pair.{Pair}
use Rattle.suit_envelope.specs.declared.envelope.Attached.{Attached}
use Rattle.suit_envelope.specs.Envelopes.{before, attached_in, kept_of}
use Rattle.suit_envelope.proofs.Parting.{attached_more, kept_more}
use Rattle.suit_envelope.proofs.read.parted.Goals as goal

pub loop-pair-preserved : goal.loop-pair-preserved
loop-pair-preserved c = record {
  attached = c.in_ok-put_part.ensures.attached ∙ ap (λ (payloads : List Attached). payloads ++ before (attached_in c.in-Some.pair) []) c.loop-pair.invariant.attached ∙ sym (attached_more c.loop-pair.yielded (c.in-Some.pair ∷ []));
  kept = c.in_ok-put_part.ensures.kept ∙ ap (λ (ps : List Pair). ps ++ kept_of (c.in-Some.pair ∷ [])) c.loop-pair.invariant.kept ∙ sym (kept_more c.loop-pair.yielded (c.in-Some.pair ∷ []));
}
