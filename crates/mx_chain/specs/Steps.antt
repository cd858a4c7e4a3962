-- What one turn of a transfer does.
use Rattle.std.specs.Prelude.{◌≡◌, ◌≢◌, ℕ, ◌<◌, true, List, length, Option, None, Ok, IsSome, ◌⊎◌}
use Rattle.mx_types.specs.declared.code.Code.{Code}
use Rattle.mx_request.specs.Request.{RequestValue}
use Rattle.mx_link.specs.declared.answers.Answer.{Answer}
use Rattle.mx_exchange.specs.Exchanges.{HopValue, ExchangeState, clocked}
use Rattle.mx_exchange.specs.Turns as hop
use Rattle.mx_exchange.specs.Turns.{Turns}
use Rattle.mx_chain.specs.Hops.{is_redirect, next_of, EndsWith}
use Rattle.mx_chain.specs.Outcomes.{OutcomeValue, outcome_of}
use Rattle.mx_chain.specs.Chains.{ChainState, home_by, left_of, halted, onward, over}
use Rattle.mx_chain.specs.declared.chains.Stepped.{Stepped}
use Rattle.mx_chain.specs.declared.chains.Stepped.TheVariants as stepped

-- the result of a turn: it waits, it asks for another turn, or it ends
pub data How : Type 0 where
  waits : How
  asks : How
  ends : OutcomeValue → How

abbrev pub how_of : Stepped → How
how_of stepped.Waits = waits
how_of stepped.Asks = asks
how_of (stepped.Ended o) = ends o

-- what was handed on: the outcome has it, where the turn ended the transfer
abbrev pub content_by : {L : Type 0} → ChainState L → How → List ℕ
content_by new (ends o) = o.content
content_by new _ = new.content

-- this holds for the outcome, where the turn ended it
abbrev pub IfEnded : Stepped → (OutcomeValue → Type 0) → Type 0
IfEnded (stepped.Ended o) P = P o
IfEnded _ P = Unit {0}

-- where it goes on
abbrev pub IfGoing : Stepped → Type 0 → Type 0
IfGoing (stepped.Ended o) P = Unit {0}
IfGoing _ P = P

-- At the end of a hop of the request, the link that is left stays, with a copy of its endpoint; it is dropped where that couldn't be
-- copied.
abbrev pub SettlesHome : {L : Type 0} → ChainState L → Option L → RequestValue → ChainState L → Type 0
SettlesHome t left request new =
    ((new.link ≡ left) × (new.link ≢ None → IsSome new.home × (new.home ≡ home_by None t.linked request t.hops None)))
    ⊎ ((new.link ≡ None) × (new.home ≡ None))

-- A transfer goes on from a hop that has ended. Where its response is a redirect, fewer were followed than may be, and the next request
-- is not refused, that request's hop begins, and another turn is asked for. Else the transfer ends.
pub data GoesOn {L : Type 0} (t : ChainState L) (mid : ExchangeState L) (o : HopValue) (new : ChainState L) : How → Type 0 where
  follows : (next : RequestValue) → is_redirect t.request.settings.max_redirects o ≡ true
      → length t.hops < t.request.settings.max_redirects → next_of o ≡ Ok next → new ≡ onward t mid o next
      → GoesOn t mid o new asks
  finishes : (c : Code) → EndsWith t.request.settings.max_redirects (length t.hops) o c
      → new ≡ over t mid c new.link new.home → SettlesHome t (left_of t.link mid) o.request new → GoesOn t mid o new (ends (outcome_of t.heads_alone t.hops o c))

-- A turn is one turn of the hop that is under way, and how the chain goes on from its end.
pub data Steps {L : Type 0} (history : L → List Answer) (t new : ChainState L) : How → Type 0 where
  waited : Turns history (clocked t.now) new.now hop.waits → new ≡ record t { now = new.now; content = new.content } → Steps history t new waits
  asked : Turns history (clocked t.now) new.now hop.asks → new ≡ record t { now = new.now; content = new.content } → Steps history t new asks
  ended : {how : How} (o : HopValue) (mid : ExchangeState L) → Turns history (clocked t.now) mid (hop.ends o)
      → GoesOn (halted t mid o) mid o new how → Steps history t new how
