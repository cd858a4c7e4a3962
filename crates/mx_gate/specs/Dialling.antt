-- A link over the addresses of a host.
use Rattle.std.specs.Prelude.{◌≡◌, ◌⊎◌, ℕ, Bool, true, false, List, ◌++◌}
use Rattle.std.specs.List.{list_all}
use Rattle.std.specs.declared.net.SocketAddr.{SocketAddr}
use Rattle.mx_link.specs.declared.answers.Connect.{Connect}
use Rattle.mx_link.specs.declared.answers.Connect.TheVariants as connect
use Rattle.mx_link.specs.declared.answers.Answer.{Answer}
use Rattle.mx_link.specs.declared.answers.Answer.TheVariants as answers

-- What contracts see of it: the number under which its readiness is reported, what it dialled so far and what is left, both in order, its
-- answers so far, and how many bytes it was asked for at each.
pub record DialState : Type 0 where
  pub token : ℕ
  pub dialled : List SocketAddr
  pub left : List SocketAddr
  pub history : List Answer
  pub asked : List ℕ

-- all its addresses, in the order in which they are dialled
abbrev pub addresses_of : DialState → List SocketAddr
addresses_of link = link.dialled ++ link.left

-- the connection is still being made
abbrev pub is_unmade : Answer → Bool
is_unmade answers.ConnectBlocked = true
is_unmade _ = false

-- the connection isn't made
abbrev pub IsUndone : Connect → Type 0
IsUndone connect.Done = ⊥
IsUndone _ = Unit {0}

-- nothing was asked but whether the connection is made, and it was still being made each time
abbrev pub is_connecting : List Answer → Bool
is_connecting history = list_all is_unmade history

-- rule gate-dialling: The addresses of a name are dialled in order, the IPv4 ones first, each once at most: the next where one is refused,
-- and none once the connection is made or was asked to read or to write.
--
-- So many addresses more were dialled, from the first on of those that were left.
pub record DialsNext (was left is rest : List SocketAddr) : Type 0 where
  pub next : List SocketAddr
  pub dialled : is ≡ was ++ next
  pub taken : left ≡ next ++ rest

-- rule gate-dialling
-- nothing was dialled; or nothing but whether the connection is made had been asked, and it isn't made yet
abbrev pub MayDial : DialState → DialState → Connect → Type 0
MayDial old new answer = (new.dialled ≡ old.dialled) ⊎ ((is_connecting old.history ≡ true) × IsUndone answer)
