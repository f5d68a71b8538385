-- A connection in memory.
use Rattle.std.specs.Prelude.{◌≡◌, ◌⊎◌, ◌/◌, ◌==◌, ℕ, List, [], length, take, drop, Option, Some, None, Result, is_ok, IsTrue, OnErr, if◌then◌else◌}
use Rattle.outside_core.specs.Numbers.{works_at, numbered}
use Rattle.outside_core.specs.Stream.{Stream, sends_on}
use Rattle.http_link.specs.declared.memory_link.MemoryLink.{MemoryLink}

-- what was taken, what is left and what was written
abbrev pub stream_of : MemoryLink → Stream
stream_of l = record { taken = l.taken; rest = drop l.taken l.input; sent = l.sent }

-- the most that one read gives
abbrev pub piece_of : MemoryLink → ℕ
piece_of l = l.piece

-- the numbers of the calls that fail
abbrev pub failing_of : MemoryLink → List ℕ
failing_of l = l.calls.failing

-- the number of the next call
abbrev pub next_of : MemoryLink → ℕ
next_of l = l.calls.next

-- how often a call has failed
abbrev pub faults_of : MemoryLink → ℕ
faults_of l = l.faults

-- what no call changes
pub record KeepsSetting (old new : MemoryLink) : Type 0 where
  pub piece : piece_of new ≡ piece_of old
  pub failing : failing_of new ≡ failing_of old

-- a link of which no call was made
pub record IsNew (input : List ℕ) (piece : ℕ) (failing : List ℕ) (l : MemoryLink) : Type 0 where
  pub holds : stream_of l ≡ record { taken = 0; rest = input; sent = [] }
  pub piece_is : piece_of l ≡ piece
  pub failing_is : failing_of l ≡ failing
  pub next : next_of l ≡ 0
  pub faults : faults_of l ≡ 0

-- a read takes the next number, and fails exactly where that number is to fail
pub record TakesNumber {T E : Type 0} (result : Result T E) (old new : MemoryLink) : Type 0 where
  pub works : is_ok result ≡ works_at (failing_of old) (next_of old)
  pub next : next_of new ≡ numbered (next_of old)

-- A write takes the next number, and fails where that number is to fail: the first half of the bytes stands then, rounded down. It fails too where no room is found, and writes nothing then.
pub record TakesWrite {T E : Type 0} (bytes : List ℕ) (result : Result T E) (old new : MemoryLink) : Type 0 where
  pub works : IsTrue (is_ok result) → IsTrue (works_at (failing_of old) (next_of old))
  pub half : OnErr result ((stream_of new ≡ stream_of old) ⊎ (stream_of new ≡ sends_on (take (length bytes / 2) bytes) (stream_of old)))
  pub next : next_of new ≡ numbered (next_of old)

-- all that was written, for index 0 alone
abbrev pub written_at : ℕ → Stream → Option (List ℕ)
written_at index stream = if index == 0 then Some stream.sent else None
