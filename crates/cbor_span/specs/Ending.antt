-- What is left of a reading when the value is forgotten: where it ends.
use Rattle.std.specs.Prelude.{ℕ, ◌≡◌, Result, Ok, Err}
use Rattle.cbor_heads.specs.declared.fault.Fault.{Fault}
use Rattle.cbor_heads.specs.Place.{Place}
use Rattle.cbor_heads.specs.Reading.{Outcome}

-- the place behind what was read, or the first fault
abbrev pub ending : {A : Type 0} → Outcome Fault A → Result Place Fault
ending (Ok x) = Ok x.1
ending (Err f) = Err f

-- What a function returned, and the place that it left, are how the outcome ends.
abbrev pub EndsSo : {A : Type 0} → Outcome Fault A → Result (Unit {0}) Fault → Place → Type 0
EndsSo outcome (Ok u) new = ending outcome ≡ Ok new
EndsSo outcome (Err f) new = ending outcome ≡ Err f

-- the same, by the number of bytes before the place
abbrev pub LengthIs : {A : Type 0} → Outcome Fault A → Result ℕ Fault → Type 0
LengthIs outcome (Ok n) = (q : Place) × (ending outcome ≡ Ok q) × (q.at ≡ n)
LengthIs outcome (Err f) = ending outcome ≡ Err f
