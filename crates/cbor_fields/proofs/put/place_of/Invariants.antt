use Rattle.std.proofs.Common.{◌≡◌, ◌+◌, drop}
use Rattle.std.specs.List.{prefix_len}
use Rattle.cbor_fields.specs.Written.{is_below}
use Rattle.cbor_fields.proofs.put.place_of.Given as goal

abbrev pub invariant-loop-place : goal.invariant-loop-place
invariant-loop-place l = prefix_len (is_below l.label) l.pairs ≡ l.place + prefix_len (is_below l.label) (drop l.place l.pairs)
