use Rattle.std.proofs.Common.{◌≡◌, drop}
use Rattle.cbor_fields.specs.Views.{all_bytes}
use Rattle.cbor_fields.proofs.id.are_byte_strings.Given as goal

abbrev pub invariant-loop-item : goal.invariant-loop-item
invariant-loop-item l = all_bytes (drop l.item-index l.items) ≡ all_bytes l.items
