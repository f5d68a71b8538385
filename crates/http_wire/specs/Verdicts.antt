-- What is to be done with the head of a request, and what the head of a response announces.
use Rattle.std.specs.Prelude.{◌≡◌, ◌≤◌, ◌⊎◌, ℕ, Bool, true, false, ◌&&◌, ◌==◌, not, nat_lt, List, [], ◌∷◌, length, map, codes, if◌then◌else◌, Option, Some, None}
use Rattle.std.specs.List.{list_any}
use Rattle.std.specs.Char.{to_ascii_lowercase}
use Rattle.std.specs.Str.{bytes_eq, is_utf8}
use Rattle.httparse.specs.Grammar.{RequestHead, ReadsRequest, ResponseHead, ReadsResponse, status_code}
use Rattle.httparse.specs.Spans.{name_and_value}
use Rattle.base_types.specs.declared.limits.TheConstants.{HTTP_BODY_LIMIT}
use Rattle.http_wire.specs.Fields.{Part, values, content_length, are_none, is_media, without_parameters}
use Rattle.http_wire.specs.declared.fields.BodyLength.{BodyLength}
use Rattle.http_wire.specs.declared.fields.BodyLength.TheVariants.{Unsaid, Said, Bad}
use Rattle.http_wire.specs.declared.fields.TheConstants.{FIELDS_LIMIT}
use Rattle.http_wire.specs.declared.routes.Routes.{Routes}
use Rattle.http_wire.specs.declared.routes.Route.{Route}
use Rattle.http_wire.specs.declared.routes.Route.TheVariants.{Unknown, OtherMethod, Post, Get}
use Rattle.http_wire.specs.declared.verdict.Verdict.{Verdict}
use Rattle.http_wire.specs.declared.verdict.Verdict.TheVariants.{Takes, Gets, Refused}
use Rattle.http_wire.specs.declared.announced.Announced.{Announced}

-- the head has a Transfer-Encoding (RFC 9112, section 6.1), which is not served
abbrev pub is_transfer_coded : List Part → Bool
is_transfer_coded parts = not (are_none (values (codes "transfer-encoding") parts))

-- the first Content-Type is that of the protocol's messages
abbrev pub is_teep : List Part → Bool
is_teep parts = is_media (codes "application/teep+cbor") (values (codes "content-type") parts)

-- the rows for a POST, of which the first that holds counts
abbrev pub post_verdict : BodyLength → List Part → Verdict
post_verdict Unsaid parts = Refused 411
post_verdict Bad parts = Refused 400
post_verdict (Said size) parts =
    if nat_lt HTTP_BODY_LIMIT size then Refused 413
    else (if nat_lt 0 size && not (is_teep parts) then Refused 415
    else (if is_transfer_coded parts then Refused 501
    else Takes size))

-- the target is one of the paths
abbrev pub is_listed : List ℕ → List (List ℕ) → Bool
is_listed target paths = list_any (λ path. bytes_eq path target) paths

-- Where a request goes, by its target and its method. The target of POST takes no other method, also where it is listed among those of GET.
abbrev pub route_of : Routes → List ℕ → List ℕ → Route
route_of routes method target =
    if bytes_eq target routes.post then (if bytes_eq method (codes "POST") then Post else OtherMethod)
    else (if is_listed target routes.gets then (if bytes_eq method (codes "GET") then Get else OtherMethod)
    else Unknown)

-- the rows behind the first, of which the first that holds counts; what a GET says of a body is passed over
abbrev pub verdict_by : Route → List ℕ → BodyLength → List Part → Verdict
verdict_by Unknown target said parts = Refused 404
verdict_by OtherMethod target said parts = Refused 405
verdict_by Post target said parts = post_verdict said parts
verdict_by Get target said parts = Gets target

-- the length is bad
abbrev pub is_bad : BodyLength → Bool
is_bad Unsaid = false
is_bad (Said size) = false
is_bad Bad = true

-- the rows for a request, of which the first that holds counts
abbrev pub verdict : Routes → List ℕ → List ℕ → List Part → Verdict
verdict routes method target parts =
    if is_bad (content_length parts) then Refused 400
    else verdict_by (route_of routes method target) target (content_length parts) parts

-- the bytes are one whole head of a request, with no more fields than are taken
pub record IsRequest (head : List ℕ) (h : RequestHead) : Type 0 where
  pub reads : ReadsRequest head h []
  pub few : length h.fields ≤ FIELDS_LIMIT

-- the verdict on a head: its rows, or 400 where it is no head of a request
abbrev pub IsJudged : Routes → List ℕ → Verdict → Type 0
IsJudged routes head v =
    ((h : RequestHead) × IsRequest head h × (v ≡ verdict routes h.method h.target (map name_and_value h.fields)))
    ⊎ (((h : RequestHead) → ¬ (IsRequest head h)) × (v ≡ Refused 400))

-- a media type in lower case; empty where it is no UTF-8
abbrev pub lower_media : List ℕ → List ℕ
lower_media media = if is_utf8 media then map to_ascii_lowercase media else []

-- the first of the media types without its parameters, in lower case; empty where there is none
abbrev pub media_of : List (List ℕ) → List ℕ
media_of [] = []
media_of (value ∷ more) = lower_media (without_parameters value)

-- a response of status 204 has no body, whatever length it says (RFC 9110, section 15.3.5)
abbrev pub body_size : ℕ → BodyLength → Option ℕ
body_size status Bad = None
body_size status Unsaid = if status == 204 then Some 0 else None
body_size status (Said size) = if status == 204 then Some 0 else Some size

-- what a head of this status announces, with a body of that size
abbrev pub announced_with : ℕ → List Part → Option ℕ → Option Announced
announced_with status parts None = None
announced_with status parts (Some size) = Some (record { status = status; media = media_of (values (codes "content-type") parts); size = size })

-- what a head announces; nothing where it has a Transfer-Encoding or no good length
abbrev pub announcement : ℕ → List Part → Option Announced
announcement status parts = if is_transfer_coded parts then None else announced_with status parts (body_size status (content_length parts))

-- the bytes are one whole head of a response, with no more fields than are taken
pub record IsResponse (head : List ℕ) (h : ResponseHead) : Type 0 where
  pub reads : ReadsResponse head h []
  pub few : length h.fields ≤ FIELDS_LIMIT

-- what the bytes announce; nothing too where they are no head of a response
abbrev pub Announces : List ℕ → Option Announced → Type 0
Announces head a =
    ((h : ResponseHead) × IsResponse head h × (a ≡ announcement (status_code h) (map name_and_value h.fields)))
    ⊎ (((h : ResponseHead) → ¬ (IsResponse head h)) × (a ≡ None))
