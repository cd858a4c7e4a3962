-- What holds of the hops of every outcome.
use Rattle.std.specs.Prelude.{◌≡◌, ◌≢◌, ℕ, ◌+◌, true, List, Some, Ok, IfSome, slice_get}
use Rattle.mx_request.specs.Redirects.{HasFieldLine, head_of}
use Rattle.mx_request.specs.RequestBytes.{is_private_name}
use Rattle.mx_exchange.specs.Hops as hop
use Rattle.mx_exchange.specs.Exchanges.{HopValue}
use Rattle.mx_chain.specs.Hops.{is_redirect, next_of}
use Rattle.mx_chain.specs.Outcomes.{OutcomeValue, IsOutcome, hops_of}

-- each hop, counted from 0, ended as its link answered: what holds of one exchange holds of each
abbrev pub HopsAreServed : Type 0
HopsAreServed = (o : OutcomeValue) → IsOutcome o → (i : ℕ) → IfSome (slice_get (hops_of o) i) hop.IsHop

-- each hop that another comes after is a redirect, and the request of that other is the one that follows it
abbrev pub HopsAreAChain : Type 0
HopsAreAChain =
    (o : OutcomeValue) → IsOutcome o → (i : ℕ) (before after : HopValue) → slice_get (hops_of o) i ≡ Some before
    → slice_get (hops_of o) (i + 1) ≡ Some after
    → (is_redirect o.request.settings.max_redirects before ≡ true) × (next_of before ≡ Ok after.request)

-- no line of Authorization or Cookie is in the head of a hop's request to another endpoint than the first of its chain
abbrev pub HopsKeepPrivate : Type 0
HopsKeepPrivate =
    (o : OutcomeValue) → IsOutcome o → (i : ℕ) (later : HopValue) → slice_get (hops_of o) i ≡ Some later
    → later.request.endpoint ≢ o.request.first → (name : List ℕ) → is_private_name name ≡ true
    → ¬ (HasFieldLine name (head_of later.request))
