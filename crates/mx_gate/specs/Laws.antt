-- What holds of every list of addresses.
use Rattle.std.specs.Prelude.{◌≡◌, false, List, [], ◌∷◌, ◌++◌, MatchOption}
use Rattle.std.specs.List.{AllByRecursion}
use Rattle.std.specs.declared.net.SocketAddr.{SocketAddr}
use Rattle.mx_names.specs.Addresses.{is_v4}
use Rattle.mx_gate.specs.Addresses.{chosen}

abbrev pub NoneIsV4 : List SocketAddr → Type 0
NoneIsV4 addresses = AllByRecursion (λ address. is_v4 address ≡ false) addresses

-- the address is the first IPv4 address of the list, or the first of a list without any
pub record IsFirst (addresses : List SocketAddr) (address : SocketAddr) : Type 0 where
  pub before : List SocketAddr
  pub after : List SocketAddr
  pub place : addresses ≡ before ++ address ∷ after
  pub none_before : NoneIsV4 before
  pub none_at_all : is_v4 address ≡ false → (before ≡ []) × NoneIsV4 after

abbrev pub FirstIsChosen : Type 0
FirstIsChosen = (addresses : List SocketAddr) → MatchOption (chosen addresses) (addresses ≡ []) (IsFirst addresses)
