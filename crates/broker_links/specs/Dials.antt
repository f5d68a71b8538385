-- What a dialer tells: one record for each connection that was begun.
use Rattle.std.specs.Prelude.{◌≡◌, ◌++◌, ℕ, Bool, false, List, [], ◌∷◌, Option, Some, None, Result, Ok, Err}
use Rattle.outside_core.specs.Stream.{Stream}
use Rattle.broker_links.specs.Traffic.{Traffic, stream_of, no_stream, fresh}
use Rattle.broker_links.specs.Marks.{Marks}

-- one connection: where it leads, its bytes, and whether a read and whether a write of it failed while it was open
pub record Dialed : Type 0 where
  pub host : List ℕ
  pub port : ℕ
  pub traffic : Traffic
  pub read_failed : Bool
  pub write_failed : Bool

-- the connections that are closed, in the order of their dials, and the one that is open, if one is
pub record Dials : Type 0 where
  pub closed : List Dialed
  pub current : Option Dialed

-- these connections and behind them that one, if it is there
abbrev pub with_last : List Dialed → Option Dialed → List Dialed
with_last closed None = closed
with_last closed (Some c) = closed ++ c ∷ []

-- all connections, in the order of their dials
abbrev pub all_of : Dials → List Dialed
all_of dials = with_last dials.closed dials.current

-- the bytes of the last connection
pub last_stream : List Dialed → Stream
last_stream [] = no_stream
last_stream (c ∷ []) = stream_of c.traffic
last_stream (c ∷ d ∷ more) = last_stream (d ∷ more)

-- the bytes of the connection that is open, or of the last one where none is open
abbrev pub stream_at : List Dialed → Option Dialed → Stream
stream_at closed None = last_stream closed
stream_at closed (Some c) = stream_of c.traffic

-- the bytes of the last of all connections
abbrev pub stream_in : Dials → Stream
stream_in dials = stream_at dials.closed dials.current

-- a connection with this input, of which nothing was taken, on which nothing was written and nothing has failed
abbrev pub begun : List ℕ → ℕ → List ℕ → Dialed
begun host port input = record { host = host; port = port; traffic = fresh input; read_failed = false; write_failed = false }

-- what was open is closed, with nothing lost
pub record Closes (old new : Dials) : Type 0 where
  pub closed : new.closed ≡ all_of old
  pub current : new.current ≡ None

-- what was open is closed, and a connection to that host and port is open behind it, with some input
pub record Opens (host : List ℕ) (port : ℕ) (old new : Dials) : Type 0 where
  pub closed : new.closed ≡ all_of old
  pub current : (input : List ℕ) × (new.current ≡ Some (begun host port input))

-- what a dial does: it opens one connection, or fails and begins none; what was open is closed either way
abbrev pub DialsTo : {T E : Type 0} → List ℕ → ℕ → Result T E → Dials → Dials → Type 0
DialsTo host port (Ok u) old new = Opens host port old new
DialsTo host port (Err e) old new = Closes old new

-- what reads leave of a connection: all but what was taken and the mark of a failed read
pub record ReadOf (before now : ℕ) (old new : Dialed) : Type 0 where
  pub host : new.host ≡ old.host
  pub port : new.port ≡ old.port
  pub input : new.traffic.input ≡ old.traffic.input
  pub sent : new.traffic.sent ≡ old.traffic.sent
  pub write_failed : new.write_failed ≡ old.write_failed
  pub marks : Marks before now old.read_failed new.read_failed

-- what writes leave of a connection: all but what was written and the mark of a failed write
pub record WrittenTo (before now : ℕ) (old new : Dialed) : Type 0 where
  pub host : new.host ≡ old.host
  pub port : new.port ≡ old.port
  pub input : new.traffic.input ≡ old.traffic.input
  pub taken : new.traffic.taken ≡ old.traffic.taken
  pub read_failed : new.read_failed ≡ old.read_failed
  pub marks : Marks before now old.write_failed new.write_failed

-- what is open stays open and is related so; where none is open, none is
abbrev pub OnOpen : (Dialed → Dialed → Type 0) → Option Dialed → Option Dialed → Type 0
OnOpen P None new = new ≡ None
OnOpen P (Some c) None = ⊥
OnOpen P (Some c) (Some d) = P c d

-- reads leave what is closed, and of what is open all but what was taken and its mark
pub record ReadAlone (before now : ℕ) (old new : Dials) : Type 0 where
  pub closed : new.closed ≡ old.closed
  pub current : OnOpen (ReadOf before now) old.current new.current

-- writes leave what is closed, and of what is open all but what was written and its mark
pub record WroteAlone (before now : ℕ) (old new : Dials) : Type 0 where
  pub closed : new.closed ≡ old.closed
  pub current : OnOpen (WrittenTo before now) old.current new.current
