use Rattle.std.proofs.Common.{◌≡◌, take}
use Rattle.cbor_fields.specs.Views.{others}
use Rattle.cbor_fields.proofs.field.other_pairs.Given as goal

abbrev pub invariant-loop-pair : goal.invariant-loop-pair
invariant-loop-pair l = l.copies ≡ others l.labels (take l.pair-index l.pairs)
