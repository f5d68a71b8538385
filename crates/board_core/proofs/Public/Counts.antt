-- Calls of which one follows where the one before it worked, and what they leave as it was.
use Rattle.std.proofs.Common.{◌∙◌, ℕ, Result, Ok, Err, refl, arith, subst}
use Rattle.base_types.specs.Causes.{HasCause, Rose, CausedBy}
use Rattle.base_types.specs.declared.failed.Failed.{Failed}
use Rattle.board_core.specs.Contents.{View, Same}
use Rattle.board_core.specs.Calls.{DiskCause, DiskCausedBy}

-- no call leaves all that the board holds
pub same_none : (board : View) → Same board board
same_none board = record { stream = refl; disk = refl }

-- two calls of which each leaves it
pub same_both : {old mid new : View} → Same old mid → Same mid new → Same old new
same_both first second = record { stream = second.stream ∙ first.stream; disk = second.disk ∙ first.disk }

-- a call that worked leaves the count for the next
cause_both : {T E T2 E2 : Type 0} {x : T2} {before between now : ℕ} (result : Result T E)
    → HasCause {E = E2} before between (Ok x) → HasCause between now result → HasCause before now result
cause_both {before = before} {between = between} {now = now} (Ok u) first second = record { later = omega (arith, first.later, second.later); failed = tt; steady = second.steady ∙ first.steady }
cause_both {before = before} {between = between} {now = now} (Err e) first second = record {
  later = omega (arith, first.later, second.later);
  failed = subst (λ (n : ℕ). Rose n now) first.steady second.failed;
  steady = tt;
}

-- no call
pub disk_none : (board : View) → DiskCause {T = Unit {0}} {E = Failed} board board (Ok tt)
disk_none board = record { cause = record { later = omega arith; failed = tt; steady = refl }; read = refl; send = refl; extent = refl }

-- a call of the disk worked, and another came behind it
pub disk_both : {T E T2 E2 : Type 0} {x : T2} {old mid new : View} {result : Result T E}
    → DiskCause {E = E2} old mid (Ok x) → DiskCause mid new result → DiskCause old new result
disk_both {result = result} first second = record {
  cause = cause_both result first.cause second.cause;
  read = second.read ∙ first.read;
  send = second.send ∙ first.send;
  extent = second.extent ∙ first.extent;
}

-- whatever a call that worked gave
pub disk_worked : {T E T2 E2 : Type 0} {x : T} {y : T2} {old new : View} → DiskCause {E = E} old new (Ok x) → DiskCause {E = E2} old new (Ok y)
disk_worked c = record { cause = record { later = c.cause.later; failed = tt; steady = c.cause.steady }; read = c.read; send = c.send; extent = c.extent }

-- an answer that is no failure, behind calls that worked
pub worked_so : {T E failed : Type 0} {x : T} {old new : View} → (failed → ⊥) → DiskCause {E = E} old new (Ok x) → DiskCausedBy failed old new
worked_so never c = record {
  cause = record { later = c.cause.later; fault = λ f. absurd (never f); steady = λ no. c.cause.steady };
  read = c.read;
  send = c.send;
  extent = c.extent;
}

-- one that is a failure, behind a call that failed
pub failed_so : {T E failed : Type 0} {e : E} {old new : View} → failed → DiskCause {T = T} old new (Err e) → DiskCausedBy failed old new
failed_so is c = record {
  cause = record { later = c.cause.later; fault = λ f. c.cause.failed; steady = λ no. absurd (no is) };
  read = c.read;
  send = c.send;
  extent = c.extent;
}

-- a call that worked came before
pub disk_then : {T E failed : Type 0} {x : T} {old mid new : View} → DiskCause {E = E} old mid (Ok x) → DiskCausedBy failed mid new → DiskCausedBy failed old new
disk_then {failed = failed} {old = old} {new = new} first second = record {
  cause = subst (λ (n : ℕ). CausedBy failed n new.faults.disk) first.cause.steady second.cause;
  read = second.read ∙ first.read;
  send = second.send ∙ first.send;
  extent = second.extent ∙ first.extent;
}
