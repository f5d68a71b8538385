-- The bytes of a connection or of a child: what comes in, how much of it was taken, and what was written.
use Rattle.std.specs.Prelude.{◌≡◌, ◌⊎◌, ◌/◌, ◌++◌, ℕ, Bool, false, IsTrue, List, [], length, take, drop}
use Rattle.outside_core.specs.Stream.{Stream}

-- what comes in, how much of it was taken, and what was written
pub record Traffic : Type 0 where
  -- all that reads may give, from the beginning on
  pub input : List ℕ
  -- how many bytes of it reads have handed out
  pub taken : ℕ
  pub sent : List ℕ

-- what was taken, what is left and what was written
abbrev pub stream_of : Traffic → Stream
stream_of t = record { taken = t.taken; rest = drop t.taken t.input; sent = t.sent }

-- where nothing was begun, nothing is taken, nothing is left and nothing was written
abbrev pub no_stream : Stream
no_stream = record { taken = 0; rest = []; sent = [] }

-- this input, of which nothing is taken, and nothing is written
abbrev pub fresh : List ℕ → Traffic
fresh input = record { input = input; taken = 0; sent = [] }

-- the same with more written
abbrev pub wrote : List ℕ → Traffic → Traffic
wrote bytes t = record { input = t.input; taken = t.taken; sent = t.sent ++ bytes }

-- A write that works has written all of the bytes. One that fails has written nothing, or the first half of them, rounded down.
pub record Writes (works : Bool) (bytes : List ℕ) (result : Bool) (old new : Traffic) : Type 0 where
  pub ok : IsTrue result → IsTrue works × (new ≡ wrote bytes old)
  pub err : result ≡ false → (new ≡ old) ⊎ (new ≡ wrote (take (length bytes / 2) bytes) old)
