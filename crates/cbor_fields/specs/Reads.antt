-- What a reader of an item answers.
use Rattle.std.specs.Prelude.{◌≡◌, Option, Some, None, Result, Ok, Err}
use Rattle.cbor_fields.specs.declared.fault.FormFault.{FormFault}
use Rattle.cbor_fields.specs.declared.fault.FormFault.TheVariants.{Shape, NoMemory}

-- the value where there is one, Shape where there is none, or nothing is said for want of memory
abbrev pub ReadsForm : {A : Type 0} → Option A → Result A FormFault → Type 0
ReadsForm value (Ok a) = value ≡ Some a
ReadsForm value (Err Shape) = value ≡ None
ReadsForm value (Err NoMemory) = Unit {0}
