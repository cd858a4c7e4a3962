-- What contracts see of a gate to the network.
use Rattle.std.specs.Prelude.{List, ℕ, ◌+◌, ◌-◌, ◌/◌, ◌^◌, min, max, Bool, true, false}
use Rattle.mx_types.specs.declared.code.Code.{Code}
use Rattle.mx_types.specs.declared.code.Code.TheVariants as code
use Rattle.std.specs.declared.net.SocketAddr.{SocketAddr}
use Rattle.mx_gate.specs.Said.{Said}
use Rattle.mx_gate.specs.declared.gate.Turn.{Turn}
use Rattle.mx_gate.specs.declared.gate.Turn.TheVariants as turn

-- a host, and all that one lookup of it found
pub record FoundState : Type 0 where
  pub host : List ℕ
  pub addresses : List SocketAddr

-- The latest moment given, the token of the next link, whether the last turn saw the flag set, what each lookup found and of which host, each
-- address that was dialled, and all that was said.
pub record SocketGateState : Type 0 where
  pub latest : ℕ
  pub next_token : ℕ
  pub is_stopped : Bool
  pub found : List FoundState
  pub dialled : List SocketAddr
  pub said : List Said

-- the moment in milliseconds, where so many nanoseconds passed since the start: it never falls, and fits in 64 bits
abbrev pub moment_after : ℕ → ℕ → ℕ
moment_after latest nanoseconds = max latest (min (nanoseconds / 1_000_000) (2 ^ 64 - 1))

-- tokens rise by one, and fit in 64 bits
abbrev pub next_token : ℕ → ℕ
next_token token = min (token + 1) (2 ^ 64 - 1)

-- rule gate-stop: A turn answers `Stop` while the flag is set. It waits at most as long as it is asked to, which is left to the system.
--
-- a gate stops where its flag is set
abbrev pub turn_of : Bool → Turn
turn_of true = turn.Stop
turn_of false = turn.Continue

-- the codes of a gate that can't be made
abbrev pub is_start_code : Code → Bool
is_start_code code.CouldntConnect = true
is_start_code code.OutOfMemory = true
is_start_code _ = false
