use Rattle.std.proofs.Common.{◌≡◌, [], drop}
use Rattle.suit_envelope.specs.declared.fault.EnvelopeFault.TheVariants.{Shape, NoMemory}
use Rattle.suit_envelope.specs.Manifests.{identifier}
use Rattle.suit_envelope.proofs.Each.{each_from}
use Rattle.suit_envelope.proofs.read_manifest.read_identifiers.Given as goal

abbrev pub invariant-loop-item : goal.invariant-loop-item
invariant-loop-item l = each_from NoMemory (identifier (Shape 13)) l.identifiers (drop l.item-index l.items) ≡ each_from NoMemory (identifier (Shape 13)) [] l.items
