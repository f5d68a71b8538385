-- What the counts of faults tell of a run.
use Rattle.std.proofs.Common.{◌≡◌, ◌≢◌, ℕ, refl, ◌∙◌, subst, arith}
use Rattle.base_types.specs.Causes.{CausedBy}
use Rattle.board_core.specs.Contents.{View}
use Rattle.board_core.specs.Calls.{ReadAlone}
use Rattle.turn_loop.specs.Turns.{TurnCause}
use Rattle.turn_loop.specs.Outcome.{StopCause, NothingFailed}
use Rattle.turn_loop.specs.declared.answer.Answer.{Answer}
use Rattle.turn_loop.specs.declared.answer.Answer.TheVariants as turns
use Rattle.turn_loop.specs.declared.stop.Stop.{Stop}
use Rattle.turn_loop.specs.declared.stop.Stop.TheVariants as stops

-- nothing failed from the one to the other
pub record Steady (old now : View) : Type 0 where
  pub read : now.faults.read ≡ old.faults.read
  pub send : now.faults.send ≡ old.faults.send
  pub disk : now.faults.disk ≡ old.faults.disk
  pub extent : now.extent ≡ old.extent

pub steady_none : (board : View) → Steady board board
steady_none board = record { read = refl; send = refl; disk = refl; extent = refl }

never : {failed : Type 0} (before now : ℕ) → (failed → ⊥) → now ≡ before → CausedBy failed before now
never before now unblamed same = record { later = omega (arith, same); fault = λ f. absurd (unblamed f); steady = λ _. same }

rising : {failed was : Type 0} {before now between : ℕ} → between ≡ before → CausedBy was between now → (failed → was) → (was → failed) → CausedBy failed before now
rising {failed} {was} {before} {now} {between} same cause there back = subst (λ (n : ℕ). CausedBy failed n now) same (record {
  later = cause.later;
  fault = λ f. cause.fault (there f);
  steady = λ unblamed. cause.steady (λ w. unblamed (back w));
})

-- a look that met no fault
pub looked : {told failed : Type 0} {old mid new : View} → Steady old mid → ReadAlone told mid new → CausedBy failed mid.faults.read new.faults.read → (failed → ⊥) → Steady old new
looked steady alone cause worked = record {
  read = cause.steady worked ∙ steady.read;
  send = alone.send ∙ steady.send;
  disk = alone.disk ∙ steady.disk;
  extent = alone.extent ∙ steady.extent;
}

-- an answer that met no fault
pub turned : {turn : Answer} {old mid new : View} → Steady old mid → TurnCause turn mid new → turn ≢ turns.SendFault → turn ≢ turns.DiskFault → Steady old new
turned steady cause sent stored = record {
  read = cause.read ∙ steady.read;
  send = cause.send.steady sent ∙ steady.send;
  disk = cause.disk.steady stored ∙ steady.disk;
  extent = cause.extent ∙ steady.extent;
}

-- a run stops for a reason that blames nothing
pub blameless : {old new : View} (stop : Stop) → stop ≢ stops.ReadFault → stop ≢ stops.SendFault → stop ≢ stops.DiskFault → Steady old new → StopCause stop old new
blameless {old} {new} stop read send disk steady = record {
  read = never old.faults.read new.faults.read read steady.read;
  send = never old.faults.send new.faults.send send steady.send;
  disk = never old.faults.disk new.faults.disk disk steady.disk;
  extent = steady.extent;
}

-- a run stops at a read that failed
pub read_failed : {told failed : Type 0} {old mid new : View} → Steady old mid → ReadAlone told mid new → CausedBy failed mid.faults.read new.faults.read → failed → StopCause stops.ReadFault old new
read_failed {told} {failed} {old} {mid} {new} steady alone cause is = record {
  read = rising steady.read cause (λ _. is) (λ _. refl);
  send = never old.faults.send new.faults.send (λ is. cc) (alone.send ∙ steady.send);
  disk = never old.faults.disk new.faults.disk (λ is. cc) (alone.disk ∙ steady.disk);
  extent = alone.extent ∙ steady.extent;
}

-- a run stops at a send that failed
pub send_failed : {old mid new : View} → Steady old mid → TurnCause turns.SendFault mid new → StopCause stops.SendFault old new
send_failed {old} {mid} {new} steady cause = record {
  read = never old.faults.read new.faults.read (λ is. cc) (cause.read ∙ steady.read);
  send = rising steady.send cause.send (λ _. refl) (λ _. refl);
  disk = never old.faults.disk new.faults.disk (λ is. cc) (cause.disk.steady (λ is. cc) ∙ steady.disk);
  extent = cause.extent ∙ steady.extent;
}

-- a run stops at a call of the disk that failed
pub disk_failed : {old mid new : View} → Steady old mid → TurnCause turns.DiskFault mid new → StopCause stops.DiskFault old new
disk_failed {old} {mid} {new} steady cause = record {
  read = never old.faults.read new.faults.read (λ is. cc) (cause.read ∙ steady.read);
  send = never old.faults.send new.faults.send (λ is. cc) (cause.send.steady (λ is. cc) ∙ steady.send);
  disk = rising steady.disk cause.disk (λ _. refl) (λ _. refl);
  extent = cause.extent ∙ steady.extent;
}

-- a stop that blames something is not that of a run where nothing failed
pub blames_nothing : {old new : View} {stop : Stop} → StopCause stop old new → NothingFailed old new → (stop ≢ stops.ReadFault) × (stop ≢ stops.SendFault) × (stop ≢ stops.DiskFault)
blames_nothing cause nothing = (λ is. nothing.read (cause.read.fault is), λ is. nothing.send (cause.send.fault is), λ is. nothing.disk (cause.disk.fault is))
