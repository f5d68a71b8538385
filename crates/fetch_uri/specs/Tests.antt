-- A test that computes whether a text is the address of a payload: its parts are the longest runs of the bytes that they may have.
use Rattle.std.specs.Prelude.{ℕ, Bool, ◌&&◌, ◌==◌, nat_eq, nat_le, List, length, take, drop, codes, decimal, slice_index}
use Rattle.std.specs.Char.{is_ascii_digit, is_ascii_graphic}
use Rattle.std.specs.List.{take_while, prefix_len, list_all}
use Rattle.std.specs.Cmp.Lexicographic.{pointwise}
use Rattle.std.specs.Str.Parse.{digits_value}
use Rattle.fetch_uri.specs.declared.uri.TheConstants.{URI_LIMIT, HOST_LIMIT}
use Rattle.fetch_uri.specs.Address.{is_host_byte}

-- the text begins with this front
abbrev pub begins : List ℕ → List ℕ → Bool
begins front text = pointwise nat_eq (take (length front) text) front

-- what stands behind the longest run of bytes that pass
abbrev pub behind_run : (ℕ → Bool) → List ℕ → List ℕ
behind_run passes text = drop (prefix_len passes text) text

-- the digits by which a number from 1 to 65,535 is written
abbrev pub is_port : List ℕ → Bool
is_port digits = nat_le 1 (digits_value 10 digits) && nat_le (digits_value 10 digits) 65535 && pointwise nat_eq digits (decimal (digits_value 10 digits))

-- a slash first, and no byte but those from 0x21 to 0x7e
abbrev pub is_path : List ℕ → Bool
is_path path = (slice_index path 0 == 47) && list_all is_ascii_graphic path

-- a port, and then a path
abbrev pub is_port_and_path : List ℕ → Bool
is_port_and_path text = is_port (take_while is_ascii_digit text) && is_path (behind_run is_ascii_digit text)

-- 1 to 255 bytes
abbrev pub is_host_long : List ℕ → Bool
is_host_long host = nat_le 1 (length host) && nat_le (length host) HOST_LIMIT

-- what may stand behind a host
abbrev pub is_behind_host : List ℕ → Bool
is_behind_host text = begins (codes ":") text && is_port_and_path (drop 1 text)

-- what may stand behind the scheme
abbrev pub is_behind_scheme : List ℕ → Bool
is_behind_scheme text = is_host_long (take_while is_host_byte text) && is_behind_host (behind_run is_host_byte text)

-- The text is an address, by a test.
unfoldable pub is_address : List ℕ → Bool
is_address text = nat_le (length text) URI_LIMIT && begins (codes "http://") text && is_behind_scheme (drop 7 text)
