use Rattle.std.proofs.Common.{ap, inl, inr}
use Rattle.std.specs.Prelude.{Err}
use Rattle.cose_core.specs.declared.fault.KeyFault.TheVariants as faults
use Rattle.cose_core.proofs.Public.OneKey.{key_not_refused}
use Rattle.trust_anchors.proofs.reading.read_cose_key.Goals as goal

pub returns-in-Err-NotCbor : goal.returns-in-Err-NotCbor
returns-in-Err-NotCbor c = λ key is. elim (c.in-Err-NotCbor.ensures.bad (faults.NotCbor c.in-Err-NotCbor.field-0-0) (ap Err c.in-Err-NotCbor.field-0-is)) [
  | inl memory ↦ absurd cc
  | inr refused ↦ key_not_refused c.args.bytes.now key (faults.NotCbor c.in-Err-NotCbor.field-0-0) is refused
]

pub returns-in-Err-Shape : goal.returns-in-Err-Shape
returns-in-Err-Shape c = λ key is. elim (c.in-Err-Shape.ensures.bad faults.Shape (ap Err c.in-Err-Shape.field-0-is)) [
  | inl memory ↦ absurd cc
  | inr refused ↦ key_not_refused c.args.bytes.now key faults.Shape is refused
]
