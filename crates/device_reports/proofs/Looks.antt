-- Calls that load at most, one behind the other, and their answers by other names.
use Rattle.std.proofs.Common.{◌≡◌, ◌∙◌, ℕ, refl, ap, subst, arith}
use Rattle.base_types.specs.Causes.{CausedBy}
use Rattle.board_core.specs.Contents.{View, Disk}
use Rattle.board_core.specs.Moments.{NoMoment}
use Rattle.board_core.proofs.Public.Chaining.{stays, then_quiet}
use Rattle.board_core.proofs.Public.Counts.{same_none, same_both}
use Rattle.device_reports.specs.Looking.{Looks}

-- no call, and so no failure
pub no_look : (told : Type 0) (board : View) → Looks told ⊥ board board
no_look told board = record {
  cause = record { cause = record { later = omega arith; fault = λ never. absurd never; steady = λ no. refl }; read = refl; send = refl; extent = refl };
  same = λ t. same_none board;
  moments = λ t. stays board NoMoment;
}

-- the same failure by another name
pub renamed : {told P Q : Type 0} {old new : View} → (P → Q) → (Q → P) → Looks told P old new → Looks told Q old new
renamed there back l = record {
  cause = record {
    cause = record { later = l.cause.cause.later; fault = λ q. l.cause.cause.fault (back q); steady = λ no. l.cause.cause.steady (λ p. no (there p)) };
    read = l.cause.read;
    send = l.cause.send;
    extent = l.cause.extent;
  };
  same = l.same;
  moments = l.moments;
}

-- an answer that is no failure of the disk
pub went_well : {told P : Type 0} {old new : View} → (P → ⊥) → Looks told P old new → Looks told ⊥ old new
went_well other l = renamed other (λ never. absurd never) l

-- calls that worked, and then an answer that is no failure of the disk
pub well : {told Q : Type 0} {old new : View} → (Q → ⊥) → Looks told ⊥ old new → Looks told Q old new
well other l = renamed (λ never. absurd never) other l

-- calls that worked came before
pub behind : {told Q : Type 0} {old mid new : View} → Looks told ⊥ old mid → Looks told Q mid new → Looks told Q old new
behind {told} {Q} {old} {mid} {new} first second = record {
  cause = record {
    cause = subst (λ (n : ℕ). CausedBy Q n new.faults.disk) (first.cause.cause.steady (λ never. never)) second.cause.cause;
    read = second.cause.read ∙ first.cause.read;
    send = second.cause.send ∙ first.cause.send;
    extent = second.cause.extent ∙ first.cause.extent;
  };
  same = λ t. same_both (first.same t) (second.same t);
  moments = λ t. then_quiet (first.moments t) (second.moments t);
}

-- the image stays
pub image_stays : {told P : Type 0} {old new : View} → Looks told P old new → told → new.now.disk.bytes ≡ old.now.disk.bytes
image_stays l t = ap (λ (d : Disk). d.bytes) (l.same t).disk
