use Rattle.std.proofs.Common.{◌≡◌, map, take}
use Rattle.httparse.specs.Borrowed.{header_parts}
use Rattle.http_wire.specs.Fields.{values}
use Rattle.http_wire.proofs.Values.{listed}
use Rattle.http_wire.proofs.fields.values_of.Given as goal

abbrev pub invariant-loop-field : goal.invariant-loop-field
invariant-loop-field l = values l.name (map header_parts (take l.field-index l.fields)) ≡ listed l.found
