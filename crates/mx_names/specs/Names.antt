-- What is known of hosts: a list with one record for a host.
use Rattle.std.specs.Prelude.{◌≡◌, ℕ, ◌-◌, ◌≤◌, nat_lt, nat_le, not, ◌&&◌, ◌||◌, Bool, true, false, List, [], ◌∷◌, ◌++◌, ◌⊎◌, bytes_eq, count_by, Option, Some, None, Result, Ok, Err, if◌then◌else◌}
use Rattle.std.specs.List.{filter, find, AllByRecursion}
use Rattle.std.specs.Option.{is_none}
use Rattle.std.specs.Result.{is_ok}
use Rattle.std.specs.declared.net.SocketAddr.{SocketAddr}
use Rattle.std.specs.declared.net.IpAddr.{IpAddr}
use Rattle.std.specs.Net.Grammar.{IsIpText}
use Rattle.mx_types.specs.declared.code.Code.{Code}
use Rattle.mx_types.specs.declared.code.Code.TheVariants as codes
use Rattle.mx_names.specs.Addresses.{in_order, is_lookup_code}
use Rattle.mx_names.specs.declared.entry.Learnt.{Learnt}
use Rattle.mx_names.specs.declared.answer.HostAnswer.{HostAnswer}
use Rattle.mx_names.specs.declared.answer.HostAnswer.TheVariants as answer

-- the result of a lookup: the host's addresses, or the code of why there are none
abbrev pub Outcome : Type 0
Outcome = Result (List SocketAddr) Code

-- what may be given of a host
abbrev pub Gives : Type 1
Gives = List ℕ → Outcome → Type 0

-- How long an answer is kept, in milliseconds, and how many lookups run at the same time at most.
abbrev pub kept_ms : ℕ
kept_ms = 60_000

-- rule name-lookup-count: At most 64 lookups are under way.
abbrev pub most_lookups : ℕ
most_lookups = 64

-- a host, and the result of its lookup; while that is under way nothing is learnt
pub record HostState : Type 0 where
  pub host : List ℕ
  pub learnt : Option Learnt

-- a host, and the result of its lookup
pub record FindingState : Type 0 where
  pub host : List ℕ
  pub outcome : Outcome

-- All addresses that the lookup of the host gave, the IPv4 ones first.
pub record IsFound (gives : Gives) (host : List ℕ) (addresses : List SocketAddr) : Type 0 where
  pub given : List SocketAddr
  pub gave : gives host (Ok given)
  pub all : addresses ≡ in_order given

-- the code that the lookup of the host gave, or that memory was refused
pub record IsFailure (gives : Gives) (host : List ℕ) (failed : Code) : Type 0 where
  pub code : is_lookup_code failed ≡ true
  pub why : (failed ≡ codes.OutOfMemory) ⊎ gives host (Err failed)

abbrev pub IsOutcome : Gives → List ℕ → Outcome → Type 0
IsOutcome gives host (Ok addresses) = IsFound gives host addresses
IsOutcome gives host (Err failed) = IsFailure gives host failed

-- it is of this host
abbrev pub is_of : List ℕ → HostState → Bool
is_of host state = bytes_eq state.host host

-- its lookup is under way
abbrev pub is_under_way : HostState → Bool
is_under_way state = is_none state.learnt

-- rule name-kept-60-seconds: Addresses are kept for 60 seconds.
--
-- it was learnt less than 60 seconds ago
abbrev pub is_young : ℕ → Learnt → Bool
is_young now learnt = nat_lt (now - learnt.moment) kept_ms

-- rule name-failures: A failure is reported to those who asked before it was learnt, and isn't kept for others.
--
-- The answer to one who asks since a moment: addresses while they are kept, and a failure only where it came after that moment.
abbrev pub tells : ℕ → ℕ → Learnt → Bool
tells since now learnt = is_young now learnt && (is_ok learnt.outcome || nat_le since learnt.moment)

-- an outcome, as an answer
abbrev pub answer_of : Outcome → HostAnswer
answer_of (Ok addresses) = answer.Known addresses
answer_of (Err failed) = answer.Failed failed

abbrev pub told_by : ℕ → ℕ → Option Learnt → HostAnswer
told_by since now None = answer.NotYet
told_by since now (Some learnt) = if tells since now learnt then answer_of learnt.outcome else answer.NotYet

-- The answer on a host to one who asks since a moment, now.
abbrev pub told : ℕ → ℕ → Option HostState → HostAnswer
told since now None = answer.NotYet
told since now (Some state) = told_by since now state.learnt

-- The lookup of the host isn't under way, and there is no answer.
abbrev pub is_over : ℕ → ℕ → Option Learnt → Bool
is_over since now None = false
is_over since now (Some learnt) = not (tells since now learnt)

abbrev pub is_open : ℕ → ℕ → Option HostState → Bool
is_open since now None = true
is_open since now (Some state) = is_over since now state.learnt

-- rule name-hanging-lookups: Lookups that hang delay no other while fewer than 64 do.
--
-- A lookup of the host begins: none of it is under way, there is no answer, and fewer than 64 others are under way.
abbrev pub may_begin : List ℕ → ℕ → ℕ → List HostState → Bool
may_begin host since now states = is_open since now (find (is_of host) states) && nat_lt (count_by is_under_way states) most_lookups

abbrev pub is_kept : ℕ → Option Learnt → Bool
is_kept now None = true
is_kept now (Some learnt) = is_young now learnt

-- what stays where the lookup of a host begins: other hosts, whose lookups are under way or whose outcome is kept
abbrev pub stays : List ℕ → ℕ → HostState → Bool
stays host now state = not (is_of host state) && is_kept now state.learnt

-- The lookup of a host has begun.
abbrev pub begun : List ℕ → ℕ → List HostState → List HostState
begun host now states = filter (stays host now) states ++ record { host = host; learnt = None } ∷ []

-- The result of a lookup of the host that was under way is learnt, and nothing else changes.
pub record Learns (host : List ℕ) (outcome : Outcome) (moment : ℕ) (old new : List HostState) : Type 0 where
  pub earlier : List HostState
  pub later : List HostState
  pub was : old ≡ earlier ++ record { host = host; learnt = None } ∷ later
  pub is : new ≡ earlier ++ record { host = host; learnt = Some (record { outcome = outcome; moment = moment }) } ∷ later

-- no lookup of the host is under way
abbrev pub HasNone : List ℕ → List HostState → Type 0
HasNone host states = AllByRecursion (λ state. (is_of host state && is_under_way state) ≡ false) states

-- the text is no IP address
abbrev pub SpellsNone : List ℕ → Type 0
SpellsNone text = (ip : IpAddr) → IsIpText text ip → ⊥

-- what was learnt, if anything, is the result of the lookup of the host
abbrev pub IsLearnt : Gives → List ℕ → Option Learnt → Type 0
IsLearnt gives host None = Unit {0}
IsLearnt gives host (Some learnt) = IsOutcome gives host learnt.outcome

-- rule name-one-lookup: Of a host one lookup is under way at a time.
--
-- no two are of one host
abbrev pub IsDistinct : List HostState → Type 0
IsDistinct [] = Unit {0}
IsDistinct (state ∷ states) = AllByRecursion (λ later. is_of later.host state ≡ false) states × IsDistinct states

-- What holds of every table: a host has one record, at most 64 lookups are under way, no host is an address, and each outcome is the result
-- of a lookup of that very host.
pub record IsTable (gives : Gives) (states : List HostState) : Type 0 where
  pub one : IsDistinct states
  pub few : count_by is_under_way states ≤ most_lookups
  pub names : AllByRecursion (λ state. SpellsNone state.host) states
  pub true_to : AllByRecursion (λ state. IsLearnt gives state.host state.learnt) states

-- rule name-own-answer: What is reported of a host is the result of a lookup of that host.
abbrev pub IsTrueOf : Gives → List ℕ → HostAnswer → Type 0
IsTrueOf gives host (answer.Known addresses) = IsFound gives host addresses
IsTrueOf gives host (answer.Failed failed) = IsFailure gives host failed
IsTrueOf gives host answer.NotYet = Unit {0}
