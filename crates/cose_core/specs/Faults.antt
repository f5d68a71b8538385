-- A fault of bytes that spell no item, as a fault of this crate.
use Rattle.std.specs.Prelude.{◌≡◌}
use Rattle.cbor_core.specs.declared.fault.CborFault.{CborFault}
use Rattle.cbor_core.specs.declared.fault.CborFault.TheVariants as cbor
use Rattle.cose_core.specs.declared.fault.CoseFault.{CoseFault}
use Rattle.cose_core.specs.declared.fault.CoseFault.TheVariants as cose

-- the fault of this crate that the codec's is told as
abbrev pub IsNotCose : CborFault → CoseFault → Type 0
IsNotCose (cbor.Bad f) e = e ≡ cose.NotCose f
IsNotCose cbor.NoMemory e = e ≡ cose.NoMemory
