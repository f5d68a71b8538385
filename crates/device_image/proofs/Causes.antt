-- Calls of the disk, one behind the other, whose answers are named otherwise above.
use Rattle.std.proofs.Common.{◌∙◌, ℕ, refl, subst, arith}
use Rattle.base_types.specs.Causes.{CausedBy}
use Rattle.board_core.specs.Contents.{View}
use Rattle.board_core.specs.Calls.{DiskCausedBy}

-- no call, and so no failure
pub no_call : (board : View) → DiskCausedBy ⊥ board board
no_call board = record { cause = record { later = omega arith; fault = λ never. absurd never; steady = λ no. refl }; read = refl; send = refl; extent = refl }

-- the same failure by another name
pub renamed : {P Q : Type 0} {old new : View} → (P → Q) → (Q → P) → DiskCausedBy P old new → DiskCausedBy Q old new
renamed there back c = record {
  cause = record { later = c.cause.later; fault = λ q. c.cause.fault (back q); steady = λ no. c.cause.steady (λ p. no (there p)) };
  read = c.read;
  send = c.send;
  extent = c.extent;
}

-- calls that worked came before
pub behind : {Q : Type 0} {old mid new : View} → DiskCausedBy ⊥ old mid → DiskCausedBy Q mid new → DiskCausedBy Q old new
behind {Q} {old} {mid} {new} first second = record {
  cause = subst (λ (n : ℕ). CausedBy Q n new.faults.disk) (first.cause.steady (λ never. never)) second.cause;
  read = second.read ∙ first.read;
  send = second.send ∙ first.send;
  extent = second.extent ∙ first.extent;
}

-- an answer that is no failure
pub worked : {P : Type 0} {old new : View} → (P → ⊥) → DiskCausedBy P old new → DiskCausedBy ⊥ old new
worked other c = renamed other (λ never. absurd never) c
