-- Bytes in and out: the input and the output of a board, of a connection, of a child.
use Rattle.std.specs.Prelude.{◌≡◌, ◌+◌, ◌++◌, ℕ, List, [], length, take, Result, Ok, Err}

-- what was read and what was written
pub record Stream : Type 0 where
  -- how many bytes reads have handed out
  pub taken : ℕ
  -- the input that is not yet read
  pub rest : List ℕ
  pub sent : List ℕ

-- the first list is how the second begins
abbrev pub Begins : List ℕ → List ℕ → Type 0
Begins front whole = (more : List ℕ) × (whole ≡ front ++ more)

-- these bytes came off the input, and nothing was sent
pub record Took (bytes : List ℕ) (old new : Stream) : Type 0 where
  pub front : old.rest ≡ bytes ++ new.rest
  pub taken : new.taken ≡ old.taken + length bytes
  pub sent : new.sent ≡ old.sent

-- the first n bytes of the buffer came off the input; none only where it has ended
pub record Gives (n : ℕ) (buf : List ℕ) (old new : Stream) : Type 0 where
  pub front : old.rest ≡ take n buf ++ new.rest
  pub taken : new.taken ≡ old.taken + n
  pub sent : new.sent ≡ old.sent
  pub ended : n ≡ 0 → old.rest ≡ []

-- what a read does: it gives bytes, or fails and leaves all as it was
abbrev pub Reads : {E : Type 0} → List ℕ → Result ℕ E → Stream → Stream → Type 0
Reads buf (Ok n) old new = Gives n buf old new
Reads buf (Err e) old new = new ≡ old

-- the stream with more sent
abbrev pub sends_on : List ℕ → Stream → Stream
sends_on bytes old = record old { sent = old.sent ++ bytes }

-- what is sent goes on by a front of these bytes
abbrev pub SendsSome : List ℕ → List ℕ → List ℕ → Type 0
SendsSome bytes old new = (front : List ℕ) × Begins front bytes × (new ≡ old ++ front)

-- what a send does: all of the bytes are sent at Ok, and a front of them where it fails
abbrev pub Sends : {T E : Type 0} → List ℕ → Result T E → Stream → Stream → Type 0
Sends bytes (Ok u) old new = new ≡ sends_on bytes old
Sends bytes (Err e) old new = (front : List ℕ) × Begins front bytes × (new ≡ sends_on front old)
