-- The bytes of requests and responses, line by line (RFC 9112, sections 3 to 6).
use Rattle.std.specs.Prelude.{◌≡◌, ℕ, ◌==◌, List, [], ◌∷◌, ◌++◌, length, codes, decimal, unwrap_or, if◌then◌else◌, Result, Ok, Err}
use Rattle.std.specs.List.{flat_map}
use Rattle.http.specs.StatusCode.{reason_phrase}
use Rattle.outside_core.specs.Stream.{Stream, Begins, sends_on}
use Rattle.http_wire.specs.declared.method.Method.{Method}
use Rattle.http_wire.specs.declared.method.Method.TheVariants.{Get, Post}
use Rattle.http_wire.specs.declared.write.SendWire.{SendWire}
use Rattle.http_wire.specs.declared.write.SendWire.TheVariants.{LinkFault, NoMemory}

-- each line ends in CR LF
abbrev pub line_bytes : List ℕ → List ℕ
line_bytes line = line ++ codes "\r\n"

-- a name, `: ` and a value
abbrev pub field_line : List ℕ → List ℕ → List ℕ
field_line name value = name ++ codes ": " ++ value

-- the line on the media type, where there is a body
abbrev pub media_lines : List ℕ → List ℕ → List (List ℕ)
media_lines media [] = []
media_lines media (byte ∷ more) = field_line (codes "Content-Type") media ∷ []

-- the line on the length of the body
abbrev pub length_line : List ℕ → List ℕ
length_line body = field_line (codes "Content-Length") (decimal (length body))

-- lines, and behind them one that says that the connection ends behind the message (RFC 9112, section 9.6), and an empty one
abbrev pub closed : List ℕ → List ℕ
closed lines = lines ++ line_bytes (field_line (codes "Connection") (codes "close")) ++ codes "\r\n"

-- a head of these lines
abbrev pub head_bytes : List (List ℕ) → List ℕ
head_bytes lines = closed (flat_map line_bytes lines)

-- the lines of a request to a host, which is given with its port
abbrev pub request_lines : Method → List ℕ → List ℕ → List ℕ → List (List ℕ)
request_lines Get host path body = (codes "GET " ++ path ++ codes " HTTP/1.1") ∷ field_line (codes "Host") host ∷ []
request_lines Post host path body =
    ((codes "POST " ++ path ++ codes " HTTP/1.1") ∷ field_line (codes "Host") host
    ∷ field_line (codes "Accept") (codes "application/teep+cbor") ∷ [])
    ++ media_lines (codes "application/teep+cbor") body ++ (length_line body ∷ [])

-- the lines on the length of a response's body: a 204 has none
abbrev pub length_lines : ℕ → List ℕ → List (List ℕ)
length_lines status body = if status == 204 then [] else (length_line body ∷ [])

-- the phrase of a status, which is empty where it has none (RFC 9112, section 4)
unfoldable pub phrase_of : ℕ → List ℕ
phrase_of status = unwrap_or (reason_phrase status) []

-- the first line of a response
abbrev pub status_line : ℕ → List ℕ
status_line status = codes "HTTP/1.1 " ++ decimal status ++ codes " " ++ phrase_of status

-- the lines of a response
abbrev pub response_lines : ℕ → List ℕ → List ℕ → List (List ℕ)
response_lines status media body = (status_line status ∷ []) ++ media_lines media body ++ length_lines status body

-- the bytes of a request
abbrev pub request_bytes : Method → List ℕ → List ℕ → List ℕ → List ℕ
request_bytes method host path body = head_bytes (request_lines method host path body) ++ body

-- the bytes of a response
abbrev pub response_bytes : ℕ → List ℕ → List ℕ → List ℕ
response_bytes status media body = head_bytes (response_lines status media body) ++ body

-- all of the bytes were written, or a front of them where the connection failed, or none where no memory was left
abbrev pub Wrote : List ℕ → Stream → Stream → Result (Unit {0}) SendWire → Type 0
Wrote bytes old new (Ok u) = new ≡ sends_on bytes old
Wrote bytes old new (Err LinkFault) = (front : List ℕ) × Begins front bytes × (new ≡ sends_on front old)
Wrote bytes old new (Err NoMemory) = new ≡ old
