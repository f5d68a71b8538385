use Rattle.std.proofs.Common.{drop}
use Rattle.std.specs.Prelude.{◌↔◌}
use Rattle.std.specs.List.{AllByRecursion}
use Rattle.cbor_core.specs.Spelling.{IsProper}
use Rattle.suit_envelope.proofs.write.has_proper_keys.Given as goal

abbrev pub invariant-loop-pair : goal.invariant-loop-pair
invariant-loop-pair l = AllByRecursion (λ p. IsProper p.key) (drop l.pair-index l.pairs) ↔ AllByRecursion (λ p. IsProper p.key) l.pairs
