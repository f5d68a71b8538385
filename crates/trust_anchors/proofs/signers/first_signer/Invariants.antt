use Rattle.std.proofs.Common.{take}
use Rattle.std.specs.List.{AllByRecursion}
use Rattle.trust_anchors.specs.Verified.{Signs}
use Rattle.trust_anchors.proofs.signers.first_signer.Given as goal

abbrev pub invariant-loop-at : goal.invariant-loop-at
invariant-loop-at l = AllByRecursion (λ key. ¬ (Signs l.message l.signature key)) (take l.at l.keys)
