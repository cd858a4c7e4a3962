-- Hosts whose addresses the caller has.
use Rattle.std.specs.Prelude.{IsUtf8, ◌≡◌, ◌==◌, ◌⊎◌, ℕ, Bool, List, [], ◌∷◌, Option, Some, None, bytes_eq, if◌then◌else◌}
use Rattle.std.specs.List.{AllZip, Contains, slice_split}
use Rattle.std.specs.BTreeMap.{is_at}
use Rattle.std.specs.Map.{lookup}
use Rattle.std.specs.Cmp.Lexicographic.{slice_cmp}
use Rattle.std.specs.Ordering.{nat_cmp}
use Rattle.std.specs.declared.net.SocketAddr.{SocketAddr}
use Rattle.std.specs.Net.ToAddrs.{IsHostAndPort}
use Rattle.mx_request.specs.Endpoint.{HostAndPort}
use Rattle.mx_names.specs.Names.{SpellsNone}
use Rattle.mx_gate.specs.Dials.{AreAddressesOf, AreAt}
use Rattle.mx_gate.specs.Gates.{FoundState}

-- the addresses that stand at a host, if it is in the table
abbrev pub Table : Type 0
Table = List ℕ → Option (List SocketAddr)

-- hosts with their addresses, each host once
abbrev pub HostsValue : Type 0
HostsValue = List (List ℕ × List SocketAddr)

-- where the links of a host go
abbrev pub table_of : HostsValue → Table
table_of hosts host = lookup (is_at (λ other. slice_cmp nat_cmp host other)) hosts

-- no addresses stand for none: the host isn't in the table
abbrev pub given : List SocketAddr → Option (List SocketAddr)
given [] = None
given (a ∷ addresses) = Some (a ∷ addresses)

-- the table with these addresses at a host, and with all else as it was
abbrev pub Puts : Table → List ℕ → List SocketAddr → Table → Type 0
Puts before host addresses after = (h : List ℕ) → after h ≡ (if bytes_eq host h then given addresses else before h)

abbrev pub is_comma : ℕ → Bool
is_comma b = b == 44

-- The text of addresses, with a comma between any two: each is an IPv4 or an IPv6 address without brackets. The empty text has none.
abbrev pub AreAddressesIn : List ℕ → List SocketAddr → Type 0
AreAddressesIn [] addresses = addresses ≡ []
AreAddressesIn (b ∷ text) addresses = AllZip (λ piece address. IsHostAndPort piece 0 address) (slice_split is_comma (b ∷ text)) addresses

-- a piece between commas is no address
abbrev pub AreNoAddresses : List ℕ → Type 0
AreNoAddresses text = (piece : List ℕ) × Contains (slice_split is_comma text) piece × SpellsNone piece

-- A host and a text of addresses that say nothing: one of them isn't UTF-8, or a piece between commas is no address.
abbrev pub CantBeResolved : List ℕ → List ℕ → Type 0
CantBeResolved host text = (¬ (IsUtf8 host)) ⊎ ((¬ (IsUtf8 text)) ⊎ AreNoAddresses text)

-- by the addresses that stand at its host
abbrev pub AreGivenBy : Option (List SocketAddr) → HostAndPort → List SocketAddr → List FoundState → List FoundState → Type 0
AreGivenBy (Some stand) endpoint addresses was is = AreAt endpoint.port stand addresses × (is ≡ was)
AreGivenBy None endpoint addresses was is = AreAddressesOf endpoint addresses was is

-- The addresses that are dialled for an endpoint: where its host is in the table those that stand there, at the endpoint's port, and nothing is
-- looked up; else what a gate over sockets finds.
abbrev pub AreGivenFor : Table → HostAndPort → List SocketAddr → List FoundState → List FoundState → Type 0
AreGivenFor table endpoint addresses was is = AreGivenBy (table endpoint.host) endpoint addresses was is
