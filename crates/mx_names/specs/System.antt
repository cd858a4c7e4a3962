-- The system's lookup.
use Rattle.std.specs.Prelude.{◌≡◌, ℕ, List, [], ◌∷◌, Ok, Err}
use Rattle.std.specs.declared.net.IpAddr.{IpAddr}
use Rattle.std.specs.declared.net.SocketAddr.{SocketAddr}
use Rattle.std.specs.Net.Grammar.{IsIpText}
use Rattle.std.specs.Net.ToAddrs.{IsHostAndPort}
use Rattle.mx_types.specs.declared.code.Code.TheVariants as codes
use Rattle.mx_names.specs.Names.{Outcome}

-- the one address that the host spells, at port 0, or that memory was refused
abbrev pub IsOneGiven : List ℕ → Outcome → Type 0
IsOneGiven host (Ok addresses) = (a : SocketAddr) × (addresses ≡ a ∷ []) × IsHostAndPort host 0 a
IsOneGiven host (Err failed) = failed ≡ codes.OutOfMemory

-- What the system's lookup of a host may give, as std promises it (`ToSocketAddrs` of a host and a port): of a host that spells an address
-- that one, and of a name anything.
abbrev pub SystemGives : List ℕ → Outcome → Type 0
SystemGives host outcome = (ip : IpAddr) → IsIpText host ip → IsOneGiven host outcome
