-- The address that is opened for an endpoint.
use Rattle.std.specs.Prelude.{List, Option}
use Rattle.std.specs.Option.{option_or}
use Rattle.std.specs.List.{find, slice_get}
use Rattle.std.specs.declared.net.SocketAddr.{SocketAddr}
use Rattle.mx_names.specs.Addresses.{is_v4}

-- rule gate-first-address
-- the first IPv4 address, else the first address
abbrev pub chosen : List SocketAddr → Option SocketAddr
chosen addresses = option_or (find is_v4 addresses) (slice_get addresses 0)
