use Rattle.std.proofs.Common.{◌≡◌, List, length}
use Rattle.cbor_core.specs.declared.item.Item.{Item}
use Rattle.cbor_span.specs.Parts.{AreSpelled}
use Rattle.device_state.proofs.Strings.{Walked}
use Rattle.device_state.proofs.identifier.are_strings.Given as goal

abbrev pub invariant-loop : goal.invariant-loop
invariant-loop l = (xs : List Item) → AreSpelled xs l.bytes → l.count ≡ length xs → Walked xs l.counter l.rest
