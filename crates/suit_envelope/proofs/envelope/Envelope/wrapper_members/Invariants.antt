use Rattle.std.proofs.Common.{◌≡◌, ◌∷◌, ℕ, List, map, take}
use Rattle.cbor_core.specs.declared.item.Item.TheVariants as i
use Rattle.suit_envelope.proofs.envelope.Envelope.wrapper_members.Given as goal

abbrev pub invariant-loop-block : goal.invariant-loop-block
invariant-loop-block l = l.members ≡ i.Bytes l.self.digest_bytes ∷ map (λ (block : List ℕ). i.Bytes block) (take l.block-index l.block-items)
