-- What a connection asks.
use Rattle.std.specs.Prelude.{◌≡◌, ◌<◌, ◌⊎◌, ◌++◌, ℕ, List, [], length, Result, Ok, Err}
use Rattle.outside_core.specs.Stream.{Stream, Took}
use Rattle.http_wire.specs.Parts.{IsHead, IsPartHead, TookSome, TookLast, TookHeadless}
use Rattle.http_wire.specs.Verdicts.{IsJudged}
use Rattle.http_wire.specs.declared.routes.Routes.{Routes}
use Rattle.http_wire.specs.declared.parts.PartFault.{PartFault}
use Rattle.http_wire.specs.declared.parts.PartFault.TheVariants as p
use Rattle.http_wire.specs.declared.verdict.Verdict.{Verdict}
use Rattle.http_wire.specs.declared.verdict.Verdict.TheVariants.{Takes, Gets, Refused}
use Rattle.http_wire.specs.declared.request.Asked.{Asked}
use Rattle.http_wire.specs.declared.request.Asked.TheVariants.{Post, Get}
use Rattle.http_wire.specs.declared.request.WireFault.{WireFault}
use Rattle.http_wire.specs.declared.request.WireFault.TheVariants.{Refuse, LinkFault, Cut, NoMemory}

-- a head with this verdict
pub record HeadOf (routes : Routes) (v : Verdict) (head : List ℕ) : Type 0 where
  pub is_head : IsHead head
  pub judged : IsJudged routes head v

-- a head with this verdict came, and the bytes behind it
pub record TookHead (routes : Routes) (v : Verdict) (behind : List ℕ) (old new : Stream) : Type 0 where
  pub head : List ℕ
  pub head_is : HeadOf routes v head
  pub took : Took (head ++ behind) old new

-- a head that takes a body, and less than that body
pub record IsPartRequest (routes : Routes) (bytes : List ℕ) : Type 0 where
  pub head : List ℕ
  pub size : ℕ
  pub behind : List ℕ
  pub head_is : HeadOf routes (Takes size) head
  pub whole : bytes ≡ head ++ behind
  pub fewer : length behind < size

-- all that was left is less than a request
pub record IsCut (routes : Routes) (old new : Stream) : Type 0 where
  pub bytes : List ℕ
  pub part : IsPartHead bytes ⊎ IsPartRequest routes bytes
  pub took : TookLast bytes old new

-- What came off the connection, by the answer: a request and no byte behind it; a head that is refused, or bytes in which none ends within the limit; less than a request.
abbrev pub Requested : Routes → Stream → Stream → Result Asked WireFault → Type 0
Requested routes old new (Ok (Post body)) = TookHead routes (Takes (length body)) body old new
Requested routes old new (Ok (Get path)) = TookHead routes (Gets path) [] old new
Requested routes old new (Err (Refuse status)) = TookHead routes (Refused status) [] old new ⊎ ((status ≡ 400) × TookHeadless old new)
Requested routes old new (Err Cut) = IsCut routes old new
Requested routes old new (Err LinkFault) = TookSome old new
Requested routes old new (Err NoMemory) = TookSome old new

-- what the fault of a part is for a request
abbrev pub wire_fault : PartFault → WireFault
wire_fault p.Cut = Cut
wire_fault p.LinkFault = LinkFault
wire_fault p.NoMemory = NoMemory
