-- What the functions of a worker promise one another.
use Rattle.std.specs.Prelude.{◌≡◌, ℕ, ◌+◌, ◌&&◌, Bool, false, List, ◌∷◌, ◌++◌, [], length}
use Rattle.logbook.specs.Pages.{Book}
use Rattle.mx_link.specs.declared.answers.Answer.{Answer}
use Rattle.mx_turn.specs.Idle.{Idle}
use Rattle.mx_chain.specs.Chains.{ChainState, received_of}
use Rattle.mx_exchange.specs.Exchanges.{ExchangeState, WantsLink, IsDue}
use Rattle.mx_chain.specs.Steps.{How}
use Rattle.mx_transfer_core.specs.Cores.{IsPolled}
use Rattle.mx_transfer_core.specs.Deliveries.{MakesRoom}
use Rattle.mx_transfer_core.specs.declared.polled.Polled.{Polled}
use Rattle.mx_transfer_core.specs.declared.polled.Polled.TheVariants as polled
use Rattle.mx_gate.specs.Said.{Said, lacked}
use Rattle.mx_turn.specs.Workers.{Held, SetAside, Deed, notes, Worker, starts, IsOver}
use Rattle.mx_turn.specs.Engines.{HasWaited}
use Rattle.mx_turn.specs.Turn.{Keeps, Readies, Settles, Runs, is_delayed, prepared, relieved, unlinked}

-- items in order, and of which list of ties they are
pub record QueueView (T : Type 0) : Type 0 where
  pub items : List T
  pub of : Book

-- what a worker has in flight
pub record InFlightView (L : Type 0) : Type 0 where
  pub held : List (Held L)
  pub set_aside : List SetAside
  pub of : Book

-- how many those are
abbrev pub in_flight_count : {L : Type 0} → InFlightView L → ℕ
in_flight_count r = length r.held + length r.set_aside

-- a worker, of which list of ties its claims are, and how its engine began
pub record WorkerView (L S : Type 0) : Type 0 where
  pub worker : Worker L
  pub of : Book
  pub start : S

-- beside what the gate has said
abbrev pub beside : {L : Type 0} → Worker L → List Said → Worker L
beside w said = record w { said = said }

-- its gate was asked whether too many files are open: then the idle links were dropped
pub record Relieves {L : Type 0} (w v : Worker L) (was is : List Said) : Type 0 where
  pub lacks : Bool
  pub after : v ≡ record w { idle = relieved lacks w.idle }
  pub meanwhile : is ≡ was ++ lacked lacks ∷ []

-- a transfer is ready for its poll, or no link can be opened for it yet (`delayed`)
pub record IsReadied {L : Type 0} (history : L → List Answer) (token_of : L → ℕ) (t ready : ChainState L) (goes delayed : Bool) (w v : Worker L) : Type 0 where
  pub idle : Idle L
  pub said : List Said
  pub readies : Readies history token_of goes t ready w.idle idle said
  pub delays : delayed ≡ is_delayed said
  pub after : v ≡ record w { idle = idle; said = w.said ++ said }

-- the count of a transfer's bytes is noted, and the link that a hop left is kept
pub record IsNoted {L : Type 0} (h : Held L) (left : ChainState L) (w v : Worker L) : Type 0 where
  pub idle : Idle L
  pub keeps : Keeps h.transfer w.idle idle
  pub unlinks : left ≡ unlinked h.transfer
  pub after : v ≡ record w { idle = idle; did = w.did ++ notes h.ticket h.slot (received_of h.transfer) ∷ [] }

-- a transfer is polled once, and what came of it is noted
pub record Polls {L : Type 0} (history : L → List Answer) (h : Held L) (left : ChainState L) (w v : Worker L) (how : How) : Type 0 where
  pub new : ChainState L
  pub polled : IsPolled history h.transfer new how
  pub noted : IsNoted (record h { transfer = new }) left w v

-- a poll would change nothing: it waits for a link still, isn't paused, and its deadline has not come
pub record AwaitsLink {L : Type 0} (t : ExchangeState L) : Type 0 where
  pub waited : HasWaited t
  pub wants : WantsLink t
  pub early : ¬ (IsDue t.deadline t.moment)
  pub unpaused : t.is_paused ≡ false

-- this holds, where the poll waits
abbrev pub IfWaits : {D : Type 0} → Polled D → Type 0 → Type 0
IfWaits polled.Waits P = P
IfWaits _ P = Unit {0}

-- a transfer that is ready is polled, and is held on unless it has ended
pub record Serves {L : Type 0} (history : L → List Answer) (h : Held L) (goes delayed : Bool) (w v : Worker L) : Type 0 where
  pub left : ChainState L
  pub mid : Worker L
  pub how : How
  pub polls : Polls history h left w mid how
  pub settles : Settles (record h { transfer = left }) goes delayed mid v how

-- a transfer that was looked at is polled, once its delivery has made room
pub record Advances {L : Type 0} (history : L → List Answer) (token_of : L → ℕ) (now : ℕ) (h : Held L) (goes : Bool) (w v : Worker L) : Type 0 where
  pub room : Bool
  pub offered : ChainState L
  pub ready : ChainState L
  pub new : ChainState L
  pub idle : Idle L
  pub left : Idle L
  pub said : List Said
  pub how : How
  pub makes : MakesRoom h.transfer offered room
  pub readies : Readies history token_of (goes && room) (prepared now (goes && room) offered) ready w.idle idle said
  pub polled : IsPolled history ready new how
  pub keeps : Keeps new idle left
  pub settles : Settles (record h { transfer = unlinked new }) (goes && room) (is_delayed said) (record w { idle = left; did = w.did ++ notes h.ticket h.slot (received_of new) ∷ []; said = w.said ++ said }) v how

-- A worker ran, from its start to its end: what was done at the engine, and what its gate said, before and after.
pub record HasRun {L : Type 0} (history : L → List Answer) (token_of : L → ℕ) (limit : ℕ) (done did : List (Deed L)) (was is : List Said) : Type 0 where
  pub last : Worker L
  pub run : Runs history token_of (record (starts limit) { did = done; said = was }) last
  pub over : IsOver last
  pub did_is : did ≡ last.did
  pub said_is : is ≡ last.said
