-- What a gate dials, by the resolver's answer.
use Rattle.std.proofs.Common.{◌≡◌, ◌≢◌, ℕ, true, false, List, Option, Some, None, refl, subst}
use Rattle.std.specs.Prelude.{IfSome, bytes_eq, option_map}
use Rattle.std.proofs.lemmas.Slice.Eq.{bytes_eq-Decides}
use Rattle.std.specs.declared.net.SocketAddr.{SocketAddr}
use Rattle.std.specs.declared.net.IpAddr.{IpAddr}
use Rattle.std.specs.Net.Grammar.{IsIpText}
use Rattle.mx_request.specs.Endpoint.{HostAndPort}
use Rattle.mx_names.specs.Asked.{AskedState, HasLookupCode, IsAsked}
use Rattle.mx_names.specs.Hosts.{unbracketed, IsSpelled}
use Rattle.mx_names.specs.Names.{Gives, IsTrueOf, SpellsNone}
use Rattle.mx_names.specs.declared.answer.HostAnswer.{HostAnswer}
use Rattle.mx_names.specs.declared.answer.HostAnswer.TheVariants as answers
use Rattle.mx_gate.specs.Gates.{FoundState}
use Rattle.mx_gate.specs.Dials.{AreAt, AreAddressesOf}
use Rattle.mx_named_gate.specs.Named.{Hears, IsKept, IsKeptOn, IsTold, IsToldOf, NamedGateState, ToldState, is_known, kept, anew, AreOf, told, own}

-- what the resolver says
pub is_told : (gives : Gives) (host : List ℕ) (since now : ℕ) (answer : HostAnswer) (was is : List AskedState)
    → ((ip : IpAddr) → IsIpText (unbracketed host) ip → IsSpelled (unbracketed host) answer)
    → (SpellsNone (unbracketed host) → IsTrueOf gives (unbracketed host) answer)
    → (SpellsNone (unbracketed host) → IsAsked (unbracketed host) since now answer was is)
    → ((ip : IpAddr) → IsIpText (unbracketed host) ip → is ≡ was)
    → HasLookupCode answer → IsTold gives host now answer was is
is_told gives host since now answer was is one other asks unasked code =
    record { told = record { spelled = one; looked_up = other }; asks = λ none. (since, asks none); unasked = unasked; code = code }

-- and once it is known it may be kept
pub is_kept : (gives : Gives) (host : List ℕ) (now : ℕ) (answer : HostAnswer) (was is : List AskedState)
    → IsTold gives host now answer was is → is_known answer ≡ true → IsKept gives host answer
is_kept gives host now answer was is t known = record { told = t.told; known = known; code = t.code }

-- what is kept on a host of the same bytes
pub kept_alike : (gives : Gives) (host other : List ℕ) (answer : Option HostAnswer) → bytes_eq host other ≡ true → IfSome answer (IsKept gives host)
    → IsKeptOn gives other (option_map (λ (a : HostAnswer). record { host = host; answer = a }) answer) answer
kept_alike gives host other (Some answer) same is =
    subst (λ h. IsKeptOn gives h (Some (record { host = host; answer = answer })) (Some answer)) ((bytes_eq-Decides host other).0 same) (refl, is)
kept_alike gives host other None same is = λ t none. let n : None ≡ Some t = none in absurd cc

-- and on another
pub kept_elsewhere : (gives : Gives) (host other : List ℕ) (answer : Option HostAnswer) → bytes_eq host other ≡ false
    → IsKeptOn gives other (option_map (λ (a : HostAnswer). record { host = host; answer = a }) answer) None
kept_elsewhere gives host other (Some answer) apart t same is =
    let alike = (bytes_eq-Decides host other).1 cc in absurd cc
kept_elsewhere gives host other None apart t none is = let n : None ≡ Some t = none in absurd cc

pub hears_kept : (gives : Gives) (host : List ℕ) (old new : NamedGateState) (answer : HostAnswer)
    → old.kept ≡ Some (record { host = host; answer = answer }) → new.asked ≡ old.asked → Hears gives host old new answer
hears_kept gives host old new answer there same = kept there same

pub hears_anew : (gives : Gives) (host : List ℕ) (old new : NamedGateState) (answer : HostAnswer)
    → ((t : ToldState) → old.kept ≡ Some t → t.host ≢ host) → IsTold gives host old.gate.latest answer old.asked new.asked
    → Hears gives host old new answer
hears_anew gives host old new answer none t = anew none t

pub are_told : (gives : Gives) (e : HostAndPort) (some all : List SocketAddr) (was is : List FoundState)
    → IsToldOf gives e.host (answers.Known some) → AreAt e.port some all → is ≡ was → AreOf gives e all was is
are_told gives e some all was is from at same = told some from at same

pub are_own : (gives : Gives) (e : HostAndPort) (all : List SocketAddr) (was is : List FoundState) → AreAddressesOf e all was is → AreOf gives e all was is
are_own gives e all was is of = own of
