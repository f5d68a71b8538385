-- What may be written, so that it is read at the other side as it was written.
use Rattle.std.specs.Prelude.{◌≡◌, ◌≢◌, ◌≤◌, ◌&&◌, ◌==◌, ℕ, Bool, not, nat_le, List, [], ◌∷◌, ◌++◌, length, codes, decimal, IsTrue}
use Rattle.std.specs.List.{list_all}
use Rattle.std.specs.Char.{is_ascii_graphic, is_ascii_uppercase}
use Rattle.fetch_uri.specs.Address.{IsHost, IsPath}
use Rattle.fetch_uri.specs.declared.uri.TheConstants.{URI_LIMIT}
use Rattle.http_wire.specs.Verdicts.{is_listed}
use Rattle.http_wire.specs.declared.method.Method.{Method}
use Rattle.http_wire.specs.declared.method.Method.TheVariants.{Get, Post}
use Rattle.http_wire.specs.declared.routes.Routes.{Routes}
use Rattle.http_wire.specs.declared.request.Asked.{Asked}
use Rattle.http_wire.specs.declared.request.Asked.TheVariants as a
use Rattle.http_wire.specs.declared.write.TheConstants.{MEDIA_LIMIT}

-- the host and the port of an address, with the colon between them (RFC 9110, section 7.2)
pub record IsAuthority (text : List ℕ) : Type 0 where
  pub host : List ℕ
  pub port : ℕ
  pub spelled : text ≡ host ++ codes ":" ++ decimal port
  pub host_is : IsHost host
  pub port_least : 1 ≤ port
  pub port_most : port ≤ 65535

-- the path of an address
pub record IsTarget (path : List ℕ) : Type 0 where
  pub path_is : IsPath path
  pub within : length path ≤ URI_LIMIT

-- a GET has no body
abbrev pub HasBodyOf : Method → List ℕ → Type 0
HasBodyOf method body = method ≡ Get → body ≡ []

-- the path takes requests of the method
abbrev pub IsServed : Routes → Method → List ℕ → Type 0
IsServed routes Get path = (path ≢ routes.post) × IsTrue (is_listed path routes.gets)
IsServed routes Post path = path ≡ routes.post

-- what a request of the method asks
abbrev pub asked_by : Method → List ℕ → List ℕ → Asked
asked_by Get path body = a.Get path
asked_by Post path body = a.Post body

-- a visible byte of a media type without parameters, in lower case
abbrev pub is_media_byte : ℕ → Bool
is_media_byte byte = is_ascii_graphic byte && (not (byte == 59) && not (is_ascii_uppercase byte))

-- a media type of such bytes, none or at most 255 (RFC 6838, section 4.2)
abbrev pub is_media_type : List ℕ → Bool
is_media_type media = nat_le (length media) MEDIA_LIMIT && list_all is_media_byte media

-- the media type that a response shows: that of its body, and none where it has no body
abbrev pub shown_media : List ℕ → List ℕ → List ℕ
shown_media media [] = []
shown_media media (byte ∷ more) = media
