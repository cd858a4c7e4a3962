-- What is dialled for an endpoint.
use Rattle.std.specs.Prelude.{◌≡◌, ℕ, List, [], ◌∷◌, ◌++◌, Some, Ok}
use Rattle.std.specs.List.{AllZip}
use Rattle.std.specs.declared.net.SocketAddr.{SocketAddr}
use Rattle.std.specs.Net.Socket.{socket_ip, socket_port, socket_flowinfo, socket_scope_id}
use Rattle.std.specs.Net.ToAddrs.{IsHostAndPort}
use Rattle.mx_request.specs.Endpoint.{HostAndPort}
use Rattle.mx_names.specs.Addresses.{in_order}
use Rattle.mx_names.specs.Hosts.{unbracketed}
use Rattle.mx_names.specs.Names.{Gives, SpellsNone}
use Rattle.mx_names.specs.System.{SystemGives}
use Rattle.mx_gate.specs.Addresses.{chosen}
use Rattle.mx_gate.specs.Gates.{FoundState, SocketGateState}

-- the one address, at the port that was asked for
pub record IsAt (asked : ℕ) (one address : SocketAddr) : Type 0 where
  pub ip : socket_ip address ≡ socket_ip one
  pub port : socket_port address ≡ asked
  pub flowinfo : socket_flowinfo address ≡ socket_flowinfo one
  pub scope_id : socket_scope_id address ≡ socket_scope_id one

-- the same addresses in the same order, at that port
abbrev pub AreAt : ℕ → List SocketAddr → List SocketAddr → Type 0
AreAt asked some addresses = AllZip (IsAt asked) some addresses

-- rule gate-own-addresses: What is dialled for a name is what a lookup of that very name found.
--
-- they are all that one lookup more found, which was of this host, in the order in which they are dialled
pub record AreFound (gives : Gives) (host : List ℕ) (was is : List FoundState) (asked : ℕ) (addresses : List SocketAddr) : Type 0 where
  pub found : List SocketAddr
  pub more : is ≡ was ++ record { host = host; addresses = found } ∷ []
  pub gave : gives host (Ok found)
  pub all : AreAt asked (in_order found) addresses

-- the address that is chosen of those found, at the port that was asked for
pub record IsChosenAt (found : List SocketAddr) (asked : ℕ) (address : SocketAddr) : Type 0 where
  pub one : SocketAddr
  pub first : chosen found ≡ Some one
  pub at : IsAt asked one address

-- it was chosen of what one lookup more found, which was of this host
pub record IsFound (gives : Gives) (host : List ℕ) (was is : List FoundState) (asked : ℕ) (address : SocketAddr) : Type 0 where
  pub found : List SocketAddr
  pub more : is ≡ was ++ record { host = host; addresses = found } ∷ []
  pub gave : gives host (Ok found)
  pub choice : IsChosenAt found asked address

-- rule gate-spelled-address: An address in the URL is opened as it is, without the brackets of IPv6, and isn't looked up.
--
-- The addresses of an endpoint in the order in which they are dialled, where `was` is what the lookups before found, a host with its
-- addresses each, and `is` what all have since.
pub data AreAddressesOf (endpoint : HostAndPort) (addresses : List SocketAddr) (was is : List FoundState) : Type 0 where
  -- the one that the host spells, at the port; nothing is looked up
  one_spelled : (address : SocketAddr) → addresses ≡ address ∷ [] → IsHostAndPort (unbracketed endpoint.host) endpoint.port address → is ≡ was
      → AreAddressesOf endpoint addresses was is
  -- where it spells none, all that one lookup of it found, at the port
  all_looked_up : SpellsNone (unbracketed endpoint.host) → AreFound SystemGives (unbracketed endpoint.host) was is endpoint.port addresses
      → AreAddressesOf endpoint addresses was is

-- The address of an endpoint that is dialled first.
pub data IsAddressOf (endpoint : HostAndPort) (address : SocketAddr) (was is : List FoundState) : Type 0 where
  -- the one that the host spells, at the port; nothing is looked up
  spelled : IsHostAndPort (unbracketed endpoint.host) endpoint.port address → is ≡ was → IsAddressOf endpoint address was is
  -- where it spells none, the one that is chosen of what one lookup of it found, at the port
  looked_up : SpellsNone (unbracketed endpoint.host) → IsFound SystemGives (unbracketed endpoint.host) was is endpoint.port address
      → IsAddressOf endpoint address was is

-- rule gate-first-address: What is dialled first for a link is at the endpoint's port: what its host spells, or the first IPv4 address that
-- its lookup found, else the first.
--
-- a gate has dialled one address more, which is the endpoint's
pub record Dials (endpoint : HostAndPort) (old new : SocketGateState) : Type 0 where
  pub address : SocketAddr
  pub of : IsAddressOf endpoint address old.found new.found
  pub dialled : new.dialled ≡ old.dialled ++ address ∷ []

-- the first of these addresses was dialled, and noted
pub record NotesFirst (addresses was is : List SocketAddr) : Type 0 where
  pub first : SocketAddr
  pub rest : List SocketAddr
  pub all : addresses ≡ first ∷ rest
  pub dialled : is ≡ was ++ first ∷ []
