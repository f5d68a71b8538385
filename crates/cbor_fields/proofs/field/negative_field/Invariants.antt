use Rattle.std.proofs.Common.{◌≡◌, drop}
use Rattle.cbor_fields.specs.Views.{negative_field}
use Rattle.cbor_fields.proofs.field.negative_field.Given as goal

abbrev pub invariant-loop-pair : goal.invariant-loop-pair
invariant-loop-pair l = negative_field l.label (drop l.pair-index l.pairs) ≡ negative_field l.label l.pairs
