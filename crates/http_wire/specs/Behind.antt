-- What comes behind a head.
use Rattle.std.specs.Prelude.{◌≡◌, ◌<◌, ◌≤◌, ℕ, List, length, Some, None, Result, Ok, Err}
use Rattle.outside_core.specs.Stream.{Stream, Took}
use Rattle.http_wire.specs.Parts.{TookSome, TookLast}
use Rattle.http_wire.specs.Verdicts.{IsJudged, Announces}
use Rattle.http_wire.specs.declared.routes.Routes.{Routes}
use Rattle.http_wire.specs.declared.verdict.Verdict.TheVariants.{Takes, Gets, Refused}
use Rattle.http_wire.specs.declared.request.Asked.{Asked}
use Rattle.http_wire.specs.declared.request.Asked.TheVariants.{Post, Get}
use Rattle.http_wire.specs.declared.request.WireFault.{WireFault}
use Rattle.http_wire.specs.declared.request.WireFault.TheVariants as w
use Rattle.http_wire.specs.declared.announced.Announced.{Announced}
use Rattle.http_wire.specs.declared.response.Answered.{Answered}
use Rattle.http_wire.specs.declared.response.ResponseFault.{ResponseFault}
use Rattle.http_wire.specs.declared.response.ResponseFault.TheVariants as r

-- of so many bytes fewer came, and the input has ended
pub record TookFewer (size : ℕ) (old new : Stream) : Type 0 where
  pub bytes : List ℕ
  pub fewer : length bytes < size
  pub took : TookLast bytes old new

-- the same of a body that a head of a request takes
pub record CutBody (routes : Routes) (head : List ℕ) (old new : Stream) : Type 0 where
  pub size : ℕ
  pub judged : IsJudged routes head (Takes size)
  pub took : TookFewer size old new

-- what comes behind the head of a request, by the answer
abbrev pub AskedBehind : Routes → List ℕ → Stream → Stream → Result Asked WireFault → Type 0
AskedBehind routes head old new (Ok (Post body)) = IsJudged routes head (Takes (length body)) × Took body old new
AskedBehind routes head old new (Ok (Get path)) = IsJudged routes head (Gets path) × (new ≡ old)
AskedBehind routes head old new (Err (w.Refuse status)) = IsJudged routes head (Refused status) × (new ≡ old)
AskedBehind routes head old new (Err w.Cut) = CutBody routes head old new
AskedBehind routes head old new (Err w.LinkFault) = TookSome old new
AskedBehind routes head old new (Err w.NoMemory) = TookSome old new

-- it is what was announced, and its body came
pub record Fulfils (limit : ℕ) (a : Announced) (it : Answered) (old new : Stream) : Type 0 where
  pub status : it.status ≡ a.status
  pub media : it.media ≡ a.media
  pub size : length it.body ≡ a.size
  pub within : a.size ≤ limit
  pub took : Took it.body old new

-- what comes behind a head that announces this, by the answer
abbrev pub Fulfilled : ℕ → Announced → Stream → Stream → Result Answered ResponseFault → Type 0
Fulfilled limit a old new (Ok it) = Fulfils limit a it old new
Fulfilled limit a old new (Err r.BadHead) = ⊥
Fulfilled limit a old new (Err r.TooLong) = (limit < a.size) × (new ≡ old)
Fulfilled limit a old new (Err r.Cut) = (a.size ≤ limit) × TookFewer a.size old new
Fulfilled limit a old new (Err r.LinkFault) = TookSome old new
Fulfilled limit a old new (Err r.NoMemory) = TookSome old new

-- a head that announces something, and what came behind it
pub record HeadBehind (limit : ℕ) (head : List ℕ) (old new : Stream) (result : Result Answered ResponseFault) : Type 0 where
  pub a : Announced
  pub announces : Announces head (Some a)
  pub behind : Fulfilled limit a old new result

-- what comes behind the head of a response, by the answer
abbrev pub AnsweredBehind : ℕ → List ℕ → Stream → Stream → Result Answered ResponseFault → Type 0
AnsweredBehind limit head old new (Ok it) = HeadBehind limit head old new (Ok it)
AnsweredBehind limit head old new (Err r.BadHead) = Announces head None × (new ≡ old)
AnsweredBehind limit head old new (Err r.TooLong) = HeadBehind limit head old new (Err r.TooLong)
AnsweredBehind limit head old new (Err r.Cut) = HeadBehind limit head old new (Err r.Cut)
AnsweredBehind limit head old new (Err r.LinkFault) = TookSome old new
AnsweredBehind limit head old new (Err r.NoMemory) = TookSome old new
