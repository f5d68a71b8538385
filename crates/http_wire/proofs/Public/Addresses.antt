-- The parts of an address may be written into a request.
use Rattle.std.proofs.Common.{◌≡◌, ℕ, List, ◌++◌, length, ap, arith, length-append, codes, decimal}
use Rattle.fetch_uri.specs.Address.{UriIs}
use Rattle.http_wire.specs.Sending.{IsAuthority, IsTarget}

pub address_authority : (text host : List ℕ) (port : ℕ) (path written : List ℕ) → UriIs text host port path → written ≡ host ++ codes ":" ++ decimal port → IsAuthority written
address_authority text host port path written is e = record { host = host; port = port; spelled = e; host_is = is.host_is; port_least = is.port_least; port_most = is.port_most }

pub address_target : (text host : List ℕ) (port : ℕ) (path : List ℕ) → UriIs text host port path → IsTarget path
address_target text host port path is = record {
  path_is = is.path_is;
  within = omega (arith, is.size, ap length is.spelled, length-append (codes "http://" ++ host ++ codes ":" ++ decimal port) path);
}
