-- What the counts of faults tell of a run.
use Rattle.std.proofs.Common.{◌≡◌, ◌≢◌, ℕ, refl, ◌∙◌, ap, subst, arith}
use Rattle.base_types.specs.Causes.{CausedBy, Rose}
use Rattle.board_core.specs.Contents.{View}
use Rattle.board_core.specs.Calls.{DiskCausedBy}
use Rattle.turn_loop.specs.declared.stop.Stop.{Stop}
use Rattle.turn_loop.specs.declared.stop.Stop.TheVariants as stops
use Rattle.turn_loop.specs.Outcome.{StopCause, NothingFailed}
use Rattle.agent_run.specs.Statuses.{status_of}
use Rattle.agent_run.specs.Outcome.{RunCause}
use Rattle.agent_run.specs.declared.status.Status.{Status}
use Rattle.agent_run.specs.declared.status.Status.TheVariants as statuses

-- a status blames what its stop blames
read_blamed : (stop : Stop) → status_of stop ≡ statuses.ReadFault → stop ≡ stops.ReadFault
read_blamed stops.Whole is = cc
read_blamed stops.Cut is = cc
read_blamed stops.Long is = cc
read_blamed stops.Spent is = cc
read_blamed stops.ReadFault is = refl
read_blamed stops.SendFault is = cc
read_blamed stops.DiskFault is = cc
read_blamed stops.NoMemory is = cc

send_blamed : (stop : Stop) → status_of stop ≡ statuses.SendFault → stop ≡ stops.SendFault
send_blamed stops.Whole is = cc
send_blamed stops.Cut is = cc
send_blamed stops.Long is = cc
send_blamed stops.Spent is = cc
send_blamed stops.ReadFault is = cc
send_blamed stops.SendFault is = refl
send_blamed stops.DiskFault is = cc
send_blamed stops.NoMemory is = cc

disk_blamed : (stop : Stop) → status_of stop ≡ statuses.DiskFault → stop ≡ stops.DiskFault
disk_blamed stops.Whole is = cc
disk_blamed stops.Cut is = cc
disk_blamed stops.Long is = cc
disk_blamed stops.Spent is = cc
disk_blamed stops.ReadFault is = cc
disk_blamed stops.SendFault is = cc
disk_blamed stops.DiskFault is = refl
disk_blamed stops.NoMemory is = cc

pub memory_blamed : (stop : Stop) → stop ≡ stops.NoMemory → status_of stop ≡ statuses.NoMemory
memory_blamed stop is = ap status_of is

never : {failed : Type 0} (before now : ℕ) → (failed → ⊥) → now ≡ before → CausedBy failed before now
never before now unblamed same = record { later = omega (arith, same); fault = λ f. absurd (unblamed f); steady = λ _. same }

renamed : {failed was : Type 0} {before now : ℕ} → CausedBy was before now → (failed → was) → (was → failed) → CausedBy failed before now
renamed cause there back = record { later = cause.later; fault = λ f. cause.fault (there f); steady = λ unblamed. cause.steady (λ w. unblamed (back w)) }

-- the causes of a run over frames, by its status
pub run_cause : {old new : View} (stop : Stop) → StopCause stop old new → RunCause (status_of stop) old new
run_cause stop cause = record {
  read = renamed cause.read (read_blamed stop) (λ is. ap status_of is);
  send = renamed cause.send (send_blamed stop) (λ is. ap status_of is);
  disk = renamed cause.disk (disk_blamed stop) (λ is. ap status_of is);
  extent = cause.extent;
}

-- the board was left alone, and memory ran out
pub no_cause : (board : View) → RunCause statuses.NoMemory board board
no_cause board = record {
  read = never board.faults.read board.faults.read (λ is. cc) refl;
  send = never board.faults.send board.faults.send (λ is. cc) refl;
  disk = never board.faults.disk board.faults.disk (λ is. cc) refl;
  extent = refl;
}

-- the image was mounted before the run, without a fault
pub mounted_cause : {failed : Type 0} {old mid new : View} {status : Status} → DiskCausedBy failed old mid → (failed → ⊥) → RunCause status mid new → RunCause status old new
mounted_cause {failed} {old} {mid} {new} {status} mount worked run = record {
  read = subst (λ (n : ℕ). CausedBy (status ≡ statuses.ReadFault) n new.faults.read) mount.read run.read;
  send = subst (λ (n : ℕ). CausedBy (status ≡ statuses.SendFault) n new.faults.send) mount.send run.send;
  disk = subst (λ (n : ℕ). CausedBy (status ≡ statuses.DiskFault) n new.faults.disk) (mount.cause.steady worked) run.disk;
  extent = run.extent ∙ mount.extent;
}

-- the image was not mounted, for this reason
pub unmounted_cause : {failed : Type 0} {old new : View} (status : Status) → status ≢ statuses.ReadFault → status ≢ statuses.SendFault → DiskCausedBy failed old new → (status ≡ statuses.DiskFault → failed) → (failed → status ≡ statuses.DiskFault)
    → RunCause status old new
unmounted_cause {failed} {old} {new} status read send mount there back = record {
  read = never old.faults.read new.faults.read read mount.read;
  send = never old.faults.send new.faults.send send mount.send;
  disk = renamed mount.cause there back;
  extent = mount.extent;
}

-- where nothing failed since the start, nothing failed since the mount
pub since_mount : {failed : Type 0} {old mid new : View} → DiskCausedBy failed old mid → (failed → ⊥) → NothingFailed old new → NothingFailed mid new
since_mount {failed} {old} {mid} {new} mount worked nothing = record {
  read = λ rose. nothing.read (subst (λ (n : ℕ). Rose n new.faults.read) mount.read rose);
  send = λ rose. nothing.send (subst (λ (n : ℕ). Rose n new.faults.send) mount.send rose);
  disk = λ rose. nothing.disk (subst (λ (n : ℕ). Rose n new.faults.disk) (mount.cause.steady worked) rose);
}
