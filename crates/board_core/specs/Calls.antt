-- What each call of a board changes, and what it leaves.
use Rattle.std.specs.Prelude.{◌≡◌, ◌+◌, ◌≤◌, List, ℕ, IsTrue, OnOk, OnErr, length, take, drop, Result}
use Rattle.base_types.specs.Causes.{HasCause, CausedBy}
use Rattle.outside_core.specs.Stream.{Sends}
use Rattle.board_core.specs.Contents.{View, Silent, SameDisk, Same}
use Rattle.board_core.specs.Moments.{SameOutside, Passes, NoMoment, written}

-- what reads leave as it was: all but the count of failed reads, the input and the time
pub record ReadAlone (told : Type 0) (old new : View) : Type 0 where
  pub send : new.faults.send ≡ old.faults.send
  pub disk : new.faults.disk ≡ old.faults.disk
  pub extent : new.extent ≡ old.extent
  pub same : told → SameDisk old new
  pub moments : told → Passes old new NoMoment

-- a failed send is counted, and nothing else is
pub record SendCause {T E : Type 0} (old new : View) (result : Result T E) : Type 0 where
  pub cause : HasCause old.faults.send new.faults.send result
  pub read : new.faults.read ≡ old.faults.read
  pub disk : new.faults.disk ≡ old.faults.disk
  pub extent : new.extent ≡ old.extent

-- a failed call of the disk is counted, and nothing else is
pub record DiskCause {T E : Type 0} (old new : View) (result : Result T E) : Type 0 where
  pub cause : HasCause old.faults.disk new.faults.disk result
  pub read : new.faults.read ≡ old.faults.read
  pub send : new.faults.send ≡ old.faults.send
  pub extent : new.extent ≡ old.extent

-- the same for an answer of any kind, of which some are failures of the disk
pub record DiskCausedBy (failed : Type 0) (old new : View) : Type 0 where
  pub cause : CausedBy failed old.faults.disk new.faults.disk
  pub read : new.faults.read ≡ old.faults.read
  pub send : new.faults.send ≡ old.faults.send
  pub extent : new.extent ≡ old.extent

-- the bytes go out, or a front of them where it fails
pub record SendsOut {T E : Type 0} (bytes : List ℕ) (result : Result T E) (old new : View) : Type 0 where
  pub stream : Sends bytes result old.now.stream new.now.stream
  pub disk : SameDisk old new

-- the buffer gets what the image holds there; where it fails, it may hold anything
pub record Loads {T E : Type 0} (at : ℕ) (buf : List ℕ) (result : Result T E) (old new : View) : Type 0 where
  pub ok : OnOk result (buf ≡ take (length buf) (drop at old.now.disk.bytes))
  pub same : Same old new

-- the image gets the bytes; where it fails, the range may hold any bytes, and the bytes may be counted in part
pub record Puts {T E : Type 0} (at : ℕ) (bytes : List ℕ) (result : Result T E) (old new : View) : Type 0 where
  pub ok : OnOk result (new.now.disk.bytes ≡ written old.now.disk.bytes at bytes)
  pub outside : SameOutside at (length bytes) old.now.disk.bytes new.now.disk.bytes
  pub silent : Silent old new
  pub stored : old.now.disk.stored ≤ new.now.disk.stored
  pub stored_most : new.now.disk.stored ≤ old.now.disk.stored + length bytes
  pub stored_ok : OnOk result (new.now.disk.stored ≡ old.now.disk.stored + length bytes)

-- nothing is pending; where it fails, what was pending stays so
pub record Syncs {T E : Type 0} (result : Result T E) (old new : View) : Type 0 where
  pub ok : OnOk result (IsTrue new.now.disk.clean)
  pub err : OnErr result (SameDisk old new)
  pub disk : new.now.disk ≡ record old.now.disk { clean = new.now.disk.clean }
  pub silent : Silent old new
