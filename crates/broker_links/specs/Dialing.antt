-- A dialer in memory.
use Rattle.std.specs.Prelude.{◌≡◌, ◌⊎◌, ◌/◌, ℕ, true, false, List, [], length, take, None, Result, is_ok, is_some, slice_get, option_map, IsTrue, OnOk, OnErr, if◌then◌else◌}
use Rattle.outside_core.specs.Numbers.{works_at, numbered}
use Rattle.outside_core.specs.Stream.{sends_on}
use Rattle.broker_links.specs.Traffic.{Traffic}
use Rattle.broker_links.specs.Dials.{Dialed, Dials, all_of, begun, stream_in, ReadAlone, WroteAlone}
use Rattle.broker_links.specs.declared.memory_dialer.MemoryDialer.{MemoryDialer}

-- the connection with other bytes
abbrev pub carries : Traffic → Dialed → Dialed
carries t c = record { host = c.host; port = c.port; traffic = t; read_failed = c.read_failed; write_failed = c.write_failed }

-- the connection with a read that failed
abbrev pub read_failing : Dialed → Dialed
read_failing c = record { host = c.host; port = c.port; traffic = c.traffic; read_failed = true; write_failed = c.write_failed }

-- the connection with other bytes and a write that failed
abbrev pub wrote_failing : Traffic → Dialed → Dialed
wrote_failing t c = record { host = c.host; port = c.port; traffic = t; read_failed = c.read_failed; write_failed = true }

-- the connections that were begun
abbrev pub dials_of : MemoryDialer → Dials
dials_of m = record { closed = m.closed.items; current = m.current }

-- the inputs of the connections, those to come included
abbrev pub inputs_of : MemoryDialer → List (List ℕ)
inputs_of m = m.inputs

-- the most that one read gives
abbrev pub piece_of : MemoryDialer → ℕ
piece_of m = m.piece

-- the numbers of the calls that fail
abbrev pub failing_of : MemoryDialer → List ℕ
failing_of m = m.calls.failing

-- the number of the next call
abbrev pub next_of : MemoryDialer → ℕ
next_of m = m.calls.next

-- how often a call has failed
abbrev pub faults_of : MemoryDialer → ℕ
faults_of m = m.faults

-- what no call changes
pub record KeepsSetting (old new : MemoryDialer) : Type 0 where
  pub inputs : inputs_of new ≡ inputs_of old
  pub piece : piece_of new ≡ piece_of old
  pub failing : failing_of new ≡ failing_of old

-- what reads leave
pub record KeepsRead (old new : MemoryDialer) : Type 0 where
  pub setting : KeepsSetting old new
  pub alone : ReadAlone (faults_of old) (faults_of new) (dials_of old) (dials_of new)

-- what writes leave
pub record KeepsWritten (old new : MemoryDialer) : Type 0 where
  pub setting : KeepsSetting old new
  pub alone : WroteAlone (faults_of old) (faults_of new) (dials_of old) (dials_of new)

-- a dialer of which no call was made
pub record IsNew (inputs : List (List ℕ)) (piece : ℕ) (failing : List ℕ) (m : MemoryDialer) : Type 0 where
  pub inputs_are : inputs_of m ≡ inputs
  pub piece_is : piece_of m ≡ piece
  pub failing_is : failing_of m ≡ failing
  pub next : next_of m ≡ 0
  pub faults : faults_of m ≡ 0
  pub closed : (dials_of m).closed ≡ []
  pub current : (dials_of m).current ≡ None

-- a read takes the next number, and works exactly where that number is not to fail and a connection is open
pub record TakesRead {T E : Type 0} (result : Result T E) (old new : MemoryDialer) : Type 0 where
  pub works : is_ok result ≡ (if is_some (dials_of old).current then works_at (failing_of old) (next_of old) else false)
  pub next : next_of new ≡ numbered (next_of old)

-- A write takes the next number, and fails where that number is to fail: the first half of the bytes stands then, rounded down. It fails too where no room is found or no connection is open, and writes nothing then.
pub record TakesWrite {T E : Type 0} (bytes : List ℕ) (result : Result T E) (old new : MemoryDialer) : Type 0 where
  pub works : OnOk result (IsTrue (works_at (failing_of old) (next_of old)) × IsTrue (is_some (dials_of old).current))
  pub half : OnErr result ((stream_in (dials_of new) ≡ stream_in (dials_of old)) ⊎ (stream_in (dials_of new) ≡ sends_on (take (length bytes / 2) bytes) (stream_in (dials_of old))))
  pub next : next_of new ≡ numbered (next_of old)

-- A dial takes the next number, and fails where that number is to fail, where no connection is left, and where no room is found. At Ok the connection has the input that is next in the list.
pub record TakesDial {T E : Type 0} (host : List ℕ) (port : ℕ) (result : Result T E) (old new : MemoryDialer) : Type 0 where
  pub works : OnOk result (IsTrue (works_at (failing_of old) (next_of old)))
  pub next_input : OnOk result ((dials_of new).current ≡ option_map (begun host port) (slice_get (inputs_of old) (length (all_of (dials_of old)))))
  pub next : next_of new ≡ numbered (next_of old)
  pub setting : KeepsSetting old new

-- what was written to a connection
abbrev pub sent_of : Dialed → List ℕ
sent_of c = c.traffic.sent
