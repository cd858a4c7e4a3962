-- A gate that waits for no name.
use Rattle.std.specs.Prelude.{◌≡◌, ◌≢◌, ◌⊎◌, ℕ, Bool, true, false, List, ◌≤◌, ◌<◌, length, Option, Some, None, Result, Ok, Err}
use Rattle.std.specs.declared.net.SocketAddr.{SocketAddr}
use Rattle.std.specs.declared.net.IpAddr.{IpAddr}
use Rattle.std.specs.Net.Grammar.{IsIpText}
use Rattle.mx_types.specs.declared.code.Code.{Code}
use Rattle.mx_request.specs.Endpoint.{HostAndPort}
use Rattle.mx_names.specs.Asked.{AskedState, HasLookupCode, IsAsked}
use Rattle.mx_names.specs.Hosts.{unbracketed, IsSpelled}
use Rattle.mx_names.specs.Names.{Gives, IsTrueOf, SpellsNone}
use Rattle.mx_names.specs.declared.answer.HostAnswer.{HostAnswer}
use Rattle.mx_names.specs.declared.answer.HostAnswer.TheVariants as answers
use Rattle.mx_gate.specs.Said.{Said}
use Rattle.mx_gate.specs.Gates.{FoundState, SocketGateState}
use Rattle.mx_gate.specs.Dials.{AreAt, AreAddressesOf}

-- a host, and the answer on it
pub record ToldState : Type 0 where
  pub host : List ℕ
  pub answer : HostAnswer

-- what is kept, and for how many bytes of a host there is room
pub record KeptState : Type 0 where
  pub told : Option ToldState
  pub room : ℕ

-- no domain name has more bytes (RFC 1035, section 3.1)
abbrev pub most_host : ℕ
most_host = 255

-- What contracts see of it: the gate that opens its links, the answer that is kept for the next link, for how many bytes of its host there is
-- room, what the resolver's table was asked, and all that was said.
pub record NamedGateState : Type 0 where
  pub gate : SocketGateState
  pub kept : Option ToldState
  pub room : ℕ
  pub asked : List AskedState
  pub said : List Said

-- A resolver's answer on a host: the address that it spells, or the result of a lookup of that very name.
pub record IsToldOf (gives : Gives) (host : List ℕ) (answer : HostAnswer) : Type 0 where
  pub spelled : (ip : IpAddr) → IsIpText (unbracketed host) ip → IsSpelled (unbracketed host) answer
  pub looked_up : SpellsNone (unbracketed host) → IsTrueOf gives (unbracketed host) answer

-- whether it is known
abbrev pub is_known : HostAnswer → Bool
is_known answers.NotYet = false
is_known _ = true

-- the answer that the resolver gives at that moment: the table is asked once more about a name, and about an address it isn't
pub record IsTold (gives : Gives) (host : List ℕ) (now : ℕ) (answer : HostAnswer) (was is : List AskedState) : Type 0 where
  pub told : IsToldOf gives host answer
  pub asks : SpellsNone (unbracketed host) → (since : ℕ) × IsAsked (unbracketed host) since now answer was is
  pub unasked : (ip : IpAddr) → IsIpText (unbracketed host) ip → is ≡ was
  pub code : HasLookupCode answer

-- an answer that is kept
pub record IsKept (gives : Gives) (host : List ℕ) (answer : HostAnswer) : Type 0 where
  pub told : IsToldOf gives host answer
  pub known : is_known answer ≡ true
  pub code : HasLookupCode answer

-- it is kept; but on a host for which there was no room it may be that none is, as where memory is refused
abbrev pub IsNoted : List ℕ → HostAnswer → ℕ → Option ToldState → Type 0
IsNoted host answer room kept = (kept ≡ Some (record { host = host; answer = answer })) ⊎ ((kept ≡ None) × (room < length host))

-- the answer that is kept on this host; none where none is kept, or one on another host
abbrev pub IsKeptOn : Gives → List ℕ → Option ToldState → Option HostAnswer → Type 0
IsKeptOn gives host kept (Some answer) = (kept ≡ Some (record { host = host; answer = answer })) × IsKept gives host answer
IsKeptOn gives host kept None = (t : ToldState) → kept ≡ Some t → t.host ≢ host

-- The answer by which a link is opened.
pub data Hears (gives : Gives) (host : List ℕ) (old new : NamedGateState) (answer : HostAnswer) : Type 0 where
  -- the one that is kept on this host
  kept : old.kept ≡ Some (record { host = host; answer = answer }) → new.asked ≡ old.asked → Hears gives host old new answer
  -- where none on it is, the one that the resolver gives now
  anew : ((t : ToldState) → old.kept ≡ Some t → t.host ≢ host) → IsTold gives host old.gate.latest answer old.asked new.asked
      → Hears gives host old new answer

-- The resolver is asked about the host, which can be opened where it has an answer: that is kept, where there is room for the host.
pub record Asks (gives : Gives) (host : List ℕ) (old new : NamedGateState) (can : Bool) : Type 0 where
  pub answer : HostAnswer
  pub told : IsTold gives host old.gate.latest answer old.asked new.asked
  pub known : can ≡ is_known answer
  pub keeps : can ≡ true → IsNoted host answer old.room new.kept
  pub same : can ≡ false → new.kept ≡ old.kept
  pub room : old.room ≤ new.room
  pub gate : new.gate ≡ old.gate

-- The addresses of a link to an endpoint, where `was` is what the gate's own lookups before found, and `is` what all have since.
pub data AreOf (gives : Gives) (endpoint : HostAndPort) (addresses : List SocketAddr) (was is : List FoundState) : Type 0 where
  -- those of the resolver's answer on the host, at the port; nothing is looked up
  told : (some : List SocketAddr) → IsToldOf gives endpoint.host (answers.Known some) → AreAt endpoint.port some addresses → is ≡ was
      → AreOf gives endpoint addresses was is
  -- where it has no answer yet, those of a gate that looks the name up itself
  own : AreAddressesOf endpoint addresses was is → AreOf gives endpoint addresses was is

-- rule name-no-second-lookup: A gate opens a link by the resolver's answer: a name that it gave no addresses for is refused with its code, and
-- isn't looked up again. Only a name of which nothing is known yet is looked up by the gate itself.
--
-- What opens, or why nothing does, by that answer: its addresses are dialled and nothing is looked up; its code is what comes back, and nothing
-- is done; or the gate within opens a link by a lookup of its own.
abbrev pub OpensAt : {L : Type 0} → (L → List SocketAddr) → HostAndPort → HostAnswer → SocketGateState → SocketGateState → Result L Code → Type 0
OpensAt addresses e (answers.Known some) old new (Ok link) = AreAt e.port some (addresses link) × (new.found ≡ old.found)
OpensAt addresses e (answers.Known some) old new (Err code) = (new.found ≡ old.found) × (new.next_token ≡ old.next_token)
OpensAt addresses e (answers.Failed failed) old new opened = (opened ≡ Err failed) × (new ≡ old)
OpensAt addresses e answers.NotYet old new (Ok link) = AreAddressesOf e (addresses link) old.found new.found
OpensAt addresses e answers.NotYet old new (Err code) = new.next_token ≡ old.next_token

-- A link is opened, or not, by the resolver's answer on the endpoint's host. Then none is kept: what was is spent, so no later link is opened by
-- it.
pub record OpensBy (gives : Gives) (e : HostAndPort) {L : Type 0} (addresses : L → List SocketAddr) (old new : NamedGateState) (opened : Result L Code) : Type 0 where
  pub answer : HostAnswer
  pub heard : Hears gives e.host old new answer
  pub opens : OpensAt addresses e answer old.gate new.gate opened
  pub spent : new.kept ≡ None
