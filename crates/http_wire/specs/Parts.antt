-- A head and a body off a connection.
use Rattle.std.specs.Prelude.{◌≡◌, ◌<◌, ◌≤◌, ℕ, List, [], ◌∷◌, length, Option, Some, None, Result, Ok, Err}
use Rattle.outside_core.specs.Stream.{Stream, Took}
use Rattle.http_wire.specs.Ends.{EndsHead, HasNoEnd}
use Rattle.http_wire.specs.declared.parts.PartFault.{PartFault}
use Rattle.http_wire.specs.declared.parts.PartFault.TheVariants.{Cut, LinkFault, NoMemory}
use Rattle.http_wire.specs.declared.parts.TheConstants.{HEAD_LIMIT}

-- some bytes came off the input, and nothing else changed
pub record TookSome (old new : Stream) : Type 0 where
  pub bytes : List ℕ
  pub took : Took bytes old new

-- these bytes came off the input, and it has ended
pub record TookLast (bytes : List ℕ) (old new : Stream) : Type 0 where
  pub took : Took bytes old new
  pub ended : new.rest ≡ []

-- a head within the limit
pub record IsHead (head : List ℕ) : Type 0 where
  pub ends : EndsHead head
  pub within : length head ≤ HEAD_LIMIT

-- as many bytes as a head may have, and no head ends in them
pub record IsHeadless (bytes : List ℕ) : Type 0 where
  pub size : length bytes ≡ HEAD_LIMIT
  pub endless : HasNoEnd bytes

-- fewer bytes, in which no head ends
pub record IsPartHead (bytes : List ℕ) : Type 0 where
  pub size : length bytes < HEAD_LIMIT
  pub endless : HasNoEnd bytes

-- bytes without an end of a head came, as many as a head may have
pub record TookHeadless (old new : Stream) : Type 0 where
  pub bytes : List ℕ
  pub headless : IsHeadless bytes
  pub took : Took bytes old new

-- a head came, or bytes in which none ends within the limit, or the input ended before
abbrev pub Heads : Stream → Stream → Result (Option (List ℕ)) PartFault → Type 0
Heads old new (Ok (Some head)) = IsHead head × Took head old new
Heads old new (Ok None) = TookHeadless old new
Heads old new (Err Cut) = (bytes : List ℕ) × IsPartHead bytes × TookLast bytes old new
Heads old new (Err LinkFault) = TookSome old new
Heads old new (Err NoMemory) = TookSome old new

-- a body of so many bytes came, or the input ended before
abbrev pub Bodies : ℕ → Stream → Stream → Result (List ℕ) PartFault → Type 0
Bodies size old new (Ok body) = (length body ≡ size) × Took body old new
Bodies size old new (Err Cut) = (bytes : List ℕ) × (length bytes < size) × TookLast bytes old new
Bodies size old new (Err LinkFault) = TookSome old new
Bodies size old new (Err NoMemory) = TookSome old new

-- what a read of one byte does: that byte comes, or the input has ended, or it fails and leaves all as it was
abbrev pub ReadsByte : {E : Type 0} → Result (Option ℕ) E → Stream → Stream → Type 0
ReadsByte (Ok (Some byte)) old new = Took (byte ∷ []) old new
ReadsByte (Ok None) old new = (new ≡ old) × (old.rest ≡ [])
ReadsByte (Err e) old new = new ≡ old
