-- What a spawner tells: the one child that was started, if one was.
use Rattle.std.specs.Prelude.{◌≡◌, ℕ, Bool, false, IsTrue, List, Option, Some, None, Result, Ok, Err, is_ok, is_none, OnOk, if◌then◌else◌}
use Rattle.outside_core.specs.Stream.{Stream, Sends}
use Rattle.broker_links.specs.Traffic.{Traffic, stream_of, no_stream, fresh}

-- a child: its program, its bytes, and whether the finish that ended it worked; None while it is there
pub record Started : Type 0 where
  pub program : List ℕ
  pub traffic : Traffic
  pub finished : Option Bool

-- a child was started and no finish came since
abbrev pub is_there : Option Started → Bool
is_there None = false
is_there (Some c) = is_none c.finished

-- the bytes of the child; where none was started there are none
abbrev pub stream_in : Option Started → Stream
stream_in None = no_stream
stream_in (Some c) = stream_of c.traffic

-- a child of which nothing was taken, and to which nothing was written
abbrev pub begun : List ℕ → List ℕ → Started
begun program output = record { program = program; traffic = fresh output; finished = None }

-- what a start does: it begins the child where none was begun before, or fails and leaves all as it was
abbrev pub Starts : {T E : Type 0} → List ℕ → Result T E → Option Started → Option Started → Type 0
Starts program (Ok u) old new = (old ≡ None) × (output : List ℕ) × (new ≡ Some (begun program output))
Starts program (Err e) old new = new ≡ old

-- the child behind a finish with this answer: one that was there is ended by it
abbrev pub ended : Bool → Option Started → Option Started
ended answer None = None
ended answer (Some c) = if is_none c.finished then Some (record { program = c.program; traffic = c.traffic; finished = Some answer }) else Some c

-- what a finish does: whatever it answers, no child is there any more; it works only where one was
pub record Finishes {T E : Type 0} (result : Result T E) (old new : Option Started) : Type 0 where
  pub there : OnOk result (IsTrue (is_there old))
  pub after : new ≡ ended (is_ok result) old

-- what reads leave of a child: all but what was taken
pub record ReadOf (old new : Started) : Type 0 where
  pub program : new.program ≡ old.program
  pub input : new.traffic.input ≡ old.traffic.input
  pub sent : new.traffic.sent ≡ old.traffic.sent
  pub finished : new.finished ≡ old.finished
  pub gone : is_none old.finished ≡ false → new ≡ old

-- what a write leaves of a child: all but what was written
pub record WrittenTo (old new : Started) : Type 0 where
  pub program : new.program ≡ old.program
  pub input : new.traffic.input ≡ old.traffic.input
  pub taken : new.traffic.taken ≡ old.traffic.taken
  pub finished : new.finished ≡ old.finished
  pub gone : is_none old.finished ≡ false → new ≡ old

-- the child stays and is related so; where none was started, none is
abbrev pub OnChild : (Started → Started → Type 0) → Option Started → Option Started → Type 0
OnChild P None new = new ≡ None
OnChild P (Some c) None = ⊥
OnChild P (Some c) (Some d) = P c d

-- what a write does: all of the bytes are written at Ok, and a front of them where it fails; it works only where a child is there
pub record WritesTo {T E : Type 0} (bytes : List ℕ) (result : Result T E) (old new : Option Started) : Type 0 where
  pub there : OnOk result (IsTrue (is_there old))
  pub stream : Sends bytes result (stream_in old) (stream_in new)
  pub same : OnChild WrittenTo old new
