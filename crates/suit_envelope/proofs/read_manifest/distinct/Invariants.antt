use Rattle.std.proofs.Common.{◌≡◌, drop}
use Rattle.suit_envelope.specs.Manifests.{are_distinct}
use Rattle.suit_envelope.proofs.read_manifest.distinct.Given as goal

abbrev pub invariant-loop-at : goal.invariant-loop-at
invariant-loop-at l = are_distinct (drop l.at l.ids) ≡ are_distinct l.ids
