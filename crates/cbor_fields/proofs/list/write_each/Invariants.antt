use Rattle.std.proofs.Common.{◌≡◌, map, take}
use Rattle.cbor_fields.proofs.list.write_each.Given as goal

abbrev pub invariant-loop-value : goal.invariant-loop-value
invariant-loop-value g l = l.items ≡ map g.F.Form.written (take l.value-index l.values)
