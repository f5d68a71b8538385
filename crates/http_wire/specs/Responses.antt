-- What a connection answers.
use Rattle.std.specs.Prelude.{◌≡◌, ◌<◌, ◌≤◌, ◌⊎◌, ◌++◌, ℕ, List, [], length, Option, Some, None, Result, Ok, Err}
use Rattle.outside_core.specs.Stream.{Stream, Took}
use Rattle.http_wire.specs.Parts.{IsHead, IsPartHead, TookSome, TookLast, TookHeadless}
use Rattle.http_wire.specs.Verdicts.{Announces}
use Rattle.http_wire.specs.declared.announced.Announced.{Announced}
use Rattle.http_wire.specs.declared.parts.PartFault.{PartFault}
use Rattle.http_wire.specs.declared.parts.PartFault.TheVariants as p
use Rattle.http_wire.specs.declared.response.Answered.{Answered}
use Rattle.http_wire.specs.declared.response.ResponseFault.{ResponseFault}
use Rattle.http_wire.specs.declared.response.ResponseFault.TheVariants.{BadHead, TooLong, Cut, LinkFault, NoMemory}

-- a head that announces this
pub record HeadWith (a : Option Announced) (head : List ℕ) : Type 0 where
  pub is_head : IsHead head
  pub announces : Announces head a

-- a head that announces this came, and the bytes behind it
pub record TookHead (a : Option Announced) (behind : List ℕ) (old new : Stream) : Type 0 where
  pub head : List ℕ
  pub head_is : HeadWith a head
  pub took : Took (head ++ behind) old new

-- a whole response came, whose body is within the limit
pub record TookResponse (limit : ℕ) (it : Answered) (old new : Stream) : Type 0 where
  pub within : length it.body ≤ limit
  pub took : TookHead (Some (record { status = it.status; media = it.media; size = length it.body })) it.body old new

-- a head came that announces a body above the limit, and no byte behind it
pub record TookTooLong (limit : ℕ) (old new : Stream) : Type 0 where
  pub a : Announced
  pub above : limit < a.size
  pub took : TookHead (Some a) [] old new

-- a head that announces a body within the limit, and less than that body
pub record IsPartResponse (limit : ℕ) (bytes : List ℕ) : Type 0 where
  pub head : List ℕ
  pub a : Announced
  pub behind : List ℕ
  pub head_is : HeadWith (Some a) head
  pub within : a.size ≤ limit
  pub whole : bytes ≡ head ++ behind
  pub fewer : length behind < a.size

-- all that was left is less than a response
pub record IsCut (limit : ℕ) (old new : Stream) : Type 0 where
  pub bytes : List ℕ
  pub part : IsPartHead bytes ⊎ IsPartResponse limit bytes
  pub took : TookLast bytes old new

-- What came off the connection, by the answer: a response and no byte behind it; a bad head, or bytes in which none ends within the limit; a head alone, whose body is too long; less than a response.
abbrev pub Responded : ℕ → Stream → Stream → Result Answered ResponseFault → Type 0
Responded limit old new (Ok it) = TookResponse limit it old new
Responded limit old new (Err BadHead) = TookHead None [] old new ⊎ TookHeadless old new
Responded limit old new (Err TooLong) = TookTooLong limit old new
Responded limit old new (Err Cut) = IsCut limit old new
Responded limit old new (Err LinkFault) = TookSome old new
Responded limit old new (Err NoMemory) = TookSome old new

-- what the fault of a part is for a response
abbrev pub response_fault : PartFault → ResponseFault
response_fault p.Cut = Cut
response_fault p.LinkFault = LinkFault
response_fault p.NoMemory = NoMemory
