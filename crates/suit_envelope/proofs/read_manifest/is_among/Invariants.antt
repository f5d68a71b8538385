use Rattle.std.proofs.Common.{◌≡◌, drop}
use Rattle.suit_envelope.specs.Manifests.{is_one_of}
use Rattle.suit_envelope.proofs.read_manifest.is_among.Given as goal

abbrev pub invariant-loop-other : goal.invariant-loop-other
invariant-loop-other l = is_one_of l.bytes (drop l.other-index l.others) ≡ is_one_of l.bytes l.others
