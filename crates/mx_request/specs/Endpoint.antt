-- Where a request goes: a host and a TCP port (RFC 9110, section 4.3.1).
use Rattle.std.specs.Prelude.{ℕ, List, ◌==◌, ◌&&◌, Bool, bytes_eq}

-- what contracts see of an `Endpoint`: the host as a URL writes it (an IPv6 address in brackets), and the port
pub record HostAndPort : Type 0 where
  pub host : List ℕ
  pub port : ℕ

-- the same bytes of the host, and the same port
abbrev pub is_same_endpoint : HostAndPort → HostAndPort → Bool
is_same_endpoint a b = a.port == b.port && bytes_eq a.host b.host
