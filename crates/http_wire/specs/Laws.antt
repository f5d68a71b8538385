-- What is so of requests and responses as bytes.
use Rattle.std.specs.Prelude.{◌≡◌, ◌<◌, ◌≤◌, ◌^◌, ℕ, List, [], length, IsTrue, Result, Ok, Err}
use Rattle.outside_core.specs.Stream.{Stream, Took}
use Rattle.base_types.specs.declared.limits.TheConstants.{HTTP_BODY_LIMIT}
use Rattle.http.specs.StatusCode.{IsStatusCode}
use Rattle.http_wire.specs.Requests.{Requested}
use Rattle.http_wire.specs.Responses.{Responded}
use Rattle.http_wire.specs.Sending.{IsAuthority, IsTarget, HasBodyOf, IsServed, asked_by, is_media_type, shown_media}
use Rattle.http_wire.specs.Writing.{request_bytes, response_bytes}
use Rattle.http_wire.specs.declared.method.Method.{Method}
use Rattle.http_wire.specs.declared.routes.Routes.{Routes}
use Rattle.http_wire.specs.declared.request.Asked.{Asked}
use Rattle.http_wire.specs.declared.request.WireFault.{WireFault}
use Rattle.http_wire.specs.declared.request.WireFault.TheVariants as w
use Rattle.http_wire.specs.declared.response.Answered.{Answered}
use Rattle.http_wire.specs.declared.response.ResponseFault.{ResponseFault}
use Rattle.http_wire.specs.declared.response.ResponseFault.TheVariants as r

-- the answer follows from the input: no call of the outside failed, and memory was left
abbrev pub IsFromInput : Result Asked WireFault → Type 0
IsFromInput (Ok asked) = Unit {0}
IsFromInput (Err (w.Refuse status)) = Unit {0}
IsFromInput (Err w.Cut) = Unit {0}
IsFromInput (Err w.LinkFault) = ⊥
IsFromInput (Err w.NoMemory) = ⊥

-- the same of an answer to who reads a response
abbrev pub IsFromResponse : Result Answered ResponseFault → Type 0
IsFromResponse (Ok it) = Unit {0}
IsFromResponse (Err r.BadHead) = Unit {0}
IsFromResponse (Err r.TooLong) = Unit {0}
IsFromResponse (Err r.Cut) = Unit {0}
IsFromResponse (Err r.LinkFault) = ⊥
IsFromResponse (Err r.NoMemory) = ⊥

-- there is an answer that follows from the input and holds of it with what it leaves, and no other does
pub record HasOneAnswer {A : Type 0} (Follows : A → Type 0) (Holds : Stream → A → Type 0) : Type 0 where
  pub answer : A
  pub left : Stream
  pub follows : Follows answer
  pub there : Holds left answer
  pub alone : (other : A) (new : Stream) → Follows other → Holds new other → (other ≡ answer) × (new ≡ left)

-- an input has exactly one answer to who reads a request, and is left in one way by it
abbrev pub OneRequest : Type 0
OneRequest = (routes : Routes) (old : Stream) → HasOneAnswer IsFromInput (Requested routes old)

-- an input has exactly one answer to who reads a response, and is left in one way by it
abbrev pub OneResponse : Type 0
OneResponse = (limit : ℕ) (old : Stream) → HasOneAnswer IsFromResponse (Responded limit old)

-- the bytes of a request are read as that request where its path is served and its body within the limit
abbrev pub WrittenRequests : Type 0
WrittenRequests = (routes : Routes) (method : Method) (host path body : List ℕ) (old new : Stream)
    → IsAuthority host → IsTarget path → HasBodyOf method body → IsServed routes method path → length body ≤ HTTP_BODY_LIMIT
    → Took (request_bytes method host path body) old new → Requested routes old new (Ok (asked_by method path body))

-- the bytes of a response are read as that response where its body is within the limit, and its length has at most 18 digits
abbrev pub WrittenResponses : Type 0
WrittenResponses = (limit status : ℕ) (media body : List ℕ) (old new : Stream)
    → IsStatusCode status → IsTrue (is_media_type media) → (status ≡ 204 → body ≡ []) → length body ≤ limit → length body < 10 ^ 18
    → Took (response_bytes status media body) old new → Responded limit old new (Ok (record { status = status; media = shown_media media body; body = body }))
