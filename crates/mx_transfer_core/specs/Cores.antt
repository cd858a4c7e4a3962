-- What one poll of a transfer does.
use Rattle.std.specs.Prelude.{◌≡◌, List}
use Rattle.mx_link.specs.declared.answers.Answer.{Answer}
use Rattle.mx_chain.specs.Chains.{ChainState}
use Rattle.mx_chain.specs.Outcomes.{OutcomeValue, EndsAs}
use Rattle.mx_chain.specs.Steps.{How, Steps, waits, asks, ends}
use Rattle.mx_transfer_core.specs.declared.polled.Polled.{Polled}
use Rattle.mx_transfer_core.specs.declared.polled.Polled.TheVariants as polled

-- what a poll comes to, by what the turn of its chain comes to: an end is with its delivery
abbrev pub Delivers : How → How → Type 0
Delivers (ends end) (ends o) = EndsAs end o
Delivers waits waits = Unit {0}
Delivers asks asks = Unit {0}
Delivers _ _ = ⊥

-- one poll of a transfer: the turn of its chain, and what its delivery makes of an end
pub record IsPolled {L : Type 0} (history : L → List Answer) (t new : ChainState L) (how : How) : Type 0 where
  pub went : How
  pub steps : Steps history t new went
  pub delivers : Delivers went how

-- what a poll came to
abbrev pub how_of : {D : Type 0} → Polled D → How
how_of polled.Waits = waits
how_of polled.Asks = asks
how_of (polled.Ended o) = ends o

-- this holds for the outcome, where the poll ended the transfer
abbrev pub IfEnded : {D : Type 0} → Polled D → (OutcomeValue → Type 0) → Type 0
IfEnded (polled.Ended o) P = P o
IfEnded _ P = Unit {0}

-- where it goes on
abbrev pub IfGoing : {D : Type 0} → Polled D → Type 0 → Type 0
IfGoing (polled.Ended o) P = Unit {0}
IfGoing _ P = P
