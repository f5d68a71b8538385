-- A spawner in memory.
use Rattle.std.specs.Prelude.{◌≡◌, ◌⊎◌, ◌/◌, ℕ, Bool, false, List, length, take, Option, Some, None, Result, IsTrue, OnOk, OnErr, if◌then◌else◌}
use Rattle.outside_core.specs.Numbers.{works_at, numbered}
use Rattle.outside_core.specs.Stream.{sends_on}
use Rattle.broker_links.specs.Traffic.{Traffic}
use Rattle.broker_links.specs.Children.{Started, begun, is_there, stream_in, OnChild, ReadOf}
use Rattle.broker_links.specs.declared.memory_spawner.MemorySpawner.{MemorySpawner}

-- the child with other bytes
abbrev pub carries : Traffic → Started → Started
carries t c = record { program = c.program; traffic = t; finished = c.finished }

-- the child that was started
abbrev pub child_of : MemorySpawner → Option Started
child_of m = m.child

-- the output of the child, also before it is started
abbrev pub output_of : MemorySpawner → List ℕ
output_of m = m.output

-- the most that one read gives
abbrev pub piece_of : MemorySpawner → ℕ
piece_of m = m.piece

-- the numbers of the calls that fail
abbrev pub failing_of : MemorySpawner → List ℕ
failing_of m = m.calls.failing

-- the number of the next call
abbrev pub next_of : MemorySpawner → ℕ
next_of m = m.calls.next

-- how often a call has failed
abbrev pub faults_of : MemorySpawner → ℕ
faults_of m = m.faults

-- what no call changes
pub record KeepsSetting (old new : MemorySpawner) : Type 0 where
  pub output : output_of new ≡ output_of old
  pub piece : piece_of new ≡ piece_of old
  pub failing : failing_of new ≡ failing_of old

-- what reads leave
pub record KeepsRead (old new : MemorySpawner) : Type 0 where
  pub setting : KeepsSetting old new
  pub alone : OnChild ReadOf (child_of old) (child_of new)

-- a spawner of which no call was made
pub record IsNew (output : List ℕ) (piece : ℕ) (failing : List ℕ) (m : MemorySpawner) : Type 0 where
  pub output_is : output_of m ≡ output
  pub piece_is : piece_of m ≡ piece
  pub failing_is : failing_of m ≡ failing
  pub next : next_of m ≡ 0
  pub faults : faults_of m ≡ 0
  pub child : child_of m ≡ None

-- a call takes the next number
pub record Takes (old new : MemorySpawner) : Type 0 where
  pub next : next_of new ≡ numbered (next_of old)
  pub setting : KeepsSetting old new

-- the next call works where its number is not to fail and a child is there
abbrev pub works_there : MemorySpawner → Bool
works_there m = if is_there (child_of m) then works_at (failing_of m) (next_of m) else false

-- A start fails where its number is to fail, where a child was started before, and where no room is found. At Ok the child has the output.
pub record TakesStart {T E : Type 0} (program : List ℕ) (result : Result T E) (old new : MemorySpawner) : Type 0 where
  pub works : OnOk result (IsTrue (works_at (failing_of old) (next_of old)))
  pub child : OnOk result (child_of new ≡ Some (begun program (output_of old)))
  pub takes : Takes old new

-- A write fails where its number is to fail: the first half of the bytes stands then, rounded down. It fails too where no room is found or no child is there, and writes nothing then.
pub record TakesWrite {T E : Type 0} (bytes : List ℕ) (result : Result T E) (old new : MemorySpawner) : Type 0 where
  pub works : OnOk result (IsTrue (works_at (failing_of old) (next_of old)))
  pub half : OnErr result ((stream_in (child_of new) ≡ stream_in (child_of old)) ⊎ (stream_in (child_of new) ≡ sends_on (take (length bytes / 2) bytes) (stream_in (child_of old))))
  pub takes : Takes old new

-- the program of a child
abbrev pub program_of : Started → List ℕ
program_of c = c.program

-- what was written to a child
abbrev pub sent_of : Started → List ℕ
sent_of c = c.traffic.sent

-- what the finish that ended a child answered
abbrev pub finished_of : Started → Option Bool
finished_of c = c.finished
