use Rattle.std.proofs.Common.{◌≡◌, drop}
use Rattle.cbor_core.specs.declared.item.Item.{out-Item}
use Rattle.cbor_fields.specs.Views.{is_among}
use Rattle.cbor_fields.proofs.field.is_key_among.Given as goal

abbrev pub invariant-loop-label : goal.invariant-loop-label
invariant-loop-label l = is_among (drop l.label-index l.labels) (out-Item l.key) ≡ is_among l.labels (out-Item l.key)
