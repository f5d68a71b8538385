use Rattle.std.proofs.Common.{◌≡◌, [], drop}
use Rattle.cbor_core.specs.Views.{bytes_of}
use Rattle.item_codec.specs.Fields.{shaped}
use Rattle.suit_envelope.specs.declared.fault.EnvelopeFault.TheVariants.{Shape, NoMemory}
use Rattle.suit_envelope.proofs.Each.{each_from}
use Rattle.suit_envelope.proofs.wrapper.read_blocks.Given as goal

abbrev pub invariant-loop-item : goal.invariant-loop-item
invariant-loop-item l = each_from NoMemory (shaped (Shape 2) bytes_of) l.blocks (drop l.item-index l.items) ≡ each_from NoMemory (shaped (Shape 2) bytes_of) [] l.items
