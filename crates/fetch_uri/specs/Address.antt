-- The address that a payload is fetched from, `http://HOST:PORT/PATH`: a profile of RFC 3986, section 3, with the scheme of RFC 9110, section 4.2.1. There is no user, the port
-- always stands, and `?` and `#` are bytes of the path like any others.
use Rattle.std.specs.Prelude.{◌≡◌, ◌≤◌, ℕ, Bool, ◌||◌, ◌==◌, List, ◌++◌, length, slice_index, codes, decimal}
use Rattle.std.specs.Char.{is_ascii_alphanumeric, is_ascii_graphic}
use Rattle.std.specs.List.{AllPass}
use Rattle.fetch_uri.specs.declared.uri.TheConstants.{URI_LIMIT, HOST_LIMIT}

-- a letter, a digit, `-` or `.` (RFC 1123, section 2.1)
abbrev pub is_host_byte : ℕ → Bool
is_host_byte byte = is_ascii_alphanumeric byte || (byte == 45 || byte == 46)

-- 1 to 255 such bytes
pub record IsHost (host : List ℕ) : Type 0 where
  pub least : 1 ≤ length host
  pub most : length host ≤ HOST_LIMIT
  pub bytes : AllPass is_host_byte host

-- a slash first, and no byte but those from 0x21 to 0x7e
pub record IsPath (path : List ℕ) : Type 0 where
  pub slash : slice_index path 0 ≡ 47
  pub bytes : AllPass is_ascii_graphic path

-- The text is the address of this host, port and path. `decimal` writes a number by the decimal digits that have its value, the first of them not 0.
pub record UriIs (text host : List ℕ) (port : ℕ) (path : List ℕ) : Type 0 where
  pub spelled : text ≡ codes "http://" ++ host ++ codes ":" ++ decimal port ++ path
  pub size : length text ≤ URI_LIMIT
  pub host_is : IsHost host
  pub port_least : 1 ≤ port
  pub port_most : port ≤ 65535
  pub path_is : IsPath path

-- the text is the address of some host, port and path
abbrev pub IsUri : List ℕ → Type 0
IsUri text = (host : List ℕ) × (port : ℕ) × (path : List ℕ) × UriIs text host port path
