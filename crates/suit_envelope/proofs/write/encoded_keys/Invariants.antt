use Rattle.std.proofs.Common.{◌≡◌, map, take, drop}
use Rattle.std.specs.List.{AllByRecursion}
use Rattle.cbor_core.specs.Spelling.{IsProper}
use Rattle.suit_envelope.specs.Written.{key_bytes}
use Rattle.suit_envelope.proofs.write.encoded_keys.Given as goal

abbrev pub invariant-loop-pair : goal.invariant-loop-pair
invariant-loop-pair l = record {
  encoded : l.keys ≡ map key_bytes (take l.pair-index l.pairs);
  proper : AllByRecursion (λ p. IsProper p.key) (drop l.pair-index l.pairs);
}
