use Rattle.std.proofs.Common.{List, ℕ, map, take, ◌++◌}
use Rattle.std.specs.List.{concat}
use Rattle.sha2.specs.Hashers.{Holds256}
use Rattle.lms_core.proofs.message.Message.add_to.Given as goal

-- the hasher holds the parts so far behind what it held
abbrev pub invariant-loop-part : goal.invariant-loop-part
invariant-loop-part l = (front : List ℕ) → Holds256 l.initial.hasher front → Holds256 l.hasher (front ++ concat (map (λ part. part.now) (take l.part-index l.part-items)))
