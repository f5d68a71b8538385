use Rattle.std.proofs.Common.{◌≡◌}
use Rattle.suit_envelope.specs.Envelopes.{attached_of, kept_of}
use Rattle.suit_envelope.proofs.read.parted.Given as goal

abbrev pub invariant-loop-pair : goal.invariant-loop-pair
invariant-loop-pair l = record {
  attached : l.attached ≡ attached_of l.yielded;
  kept : l.kept ≡ kept_of l.yielded;
}
