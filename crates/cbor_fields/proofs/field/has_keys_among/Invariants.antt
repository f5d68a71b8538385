use Rattle.std.proofs.Common.{◌≡◌, drop}
use Rattle.cbor_fields.specs.Views.{keys_among}
use Rattle.cbor_fields.proofs.field.has_keys_among.Given as goal

abbrev pub invariant-loop-label : goal.invariant-loop-label
invariant-loop-label l = keys_among (drop l.label-index l.labels) l.rest ≡ keys_among l.labels l.pairs
