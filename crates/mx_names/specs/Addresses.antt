-- The addresses of a host: their order, and the codes of a host that has none.
use Rattle.std.specs.Prelude.{Bool, true, false, not, List, ◌++◌}
use Rattle.std.specs.List.{filter}
use Rattle.std.specs.declared.net.SocketAddr.{SocketAddr}
use Rattle.std.specs.Net.Addr.{is_ipv4}
use Rattle.std.specs.Net.Socket.{socket_ip}
use Rattle.mx_types.specs.declared.code.Code.{Code}
use Rattle.mx_types.specs.declared.code.Code.TheVariants as code

-- an IPv4 address
abbrev pub is_v4 : SocketAddr → Bool
is_v4 address = is_ipv4 (socket_ip address)

-- rule name-ipv4-first: The IPv4 addresses of a host come first; else the order is the lookup's.
abbrev pub in_order : List SocketAddr → List SocketAddr
in_order addresses = filter is_v4 addresses ++ filter (λ address. not (is_v4 address)) addresses

-- the codes of a host whose addresses can't be found
abbrev pub is_lookup_code : Code → Bool
is_lookup_code code.CouldntResolveHost = true
is_lookup_code code.OutOfMemory = true
is_lookup_code _ = false
