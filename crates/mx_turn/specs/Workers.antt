-- A worker as a value: what it has in flight, and two lists, of what it did at the engine and of what its gate said.
use Rattle.std.specs.Prelude.{◌≡◌, ℕ, ◌+◌, Bool, true, false, List, [], ◌∷◌, ◌++◌, length, Option}
use Rattle.mx_types.specs.declared.names.Ticket.{Ticket}
use Rattle.mx_types.specs.declared.reply.Look.{Look}
use Rattle.mx_turn.specs.Idle.{Idle}
use Rattle.mx_chain.specs.Chains.{ChainState}
use Rattle.mx_chain.specs.Outcomes.{OutcomeValue}
use Rattle.mx_gate.specs.Said.{Said}

-- a claimed transfer: its ticket, its slot, and its state
pub record Held (L : Type 0) : Type 0 where
  pub ticket : Ticket
  pub slot : ℕ
  pub transfer : ChainState L

-- the end of a claimed transfer that was refused memory when it was handed in
pub record SetAside : Type 0 where
  pub ticket : Ticket
  pub outcome : OutcomeValue

-- The result of an end that was handed in: it was recorded; it was stale, as the transfer didn't run any more; memory was refused; or the
-- seat was another handle's.
pub data Finish : Type 0 where
  recorded : Finish
  stale : Finish
  lacking : Finish
  unseated : Finish

-- The result of giving a transfer back: it went back to the queue; it had ended before, or was removed; or the seat was another
-- handle's.
pub data Return : Type 0 where
  returned : Return
  ended_before : Return
  unreturned : Return

-- One thing that a worker did at the engine. It asked for work, and was given a transfer as it then was, or none. It looked at a ticket,
-- and got no answer where no version could be read. It noted a count of bytes for a ticket at its slot. It handed in the end of a ticket.
-- It gave a transfer back as it then was.
pub data Deed (L : Type 0) : Type 0 where
  claims : Option (Held L) → Deed L
  looks : Ticket → Option Look → Deed L
  notes : Ticket → ℕ → ℕ → Deed L
  finishes : Ticket → OutcomeValue → Finish → Deed L
  -- rule worker-requeued-deadline: A transfer that is requeued keeps its deadline.
  gives_back : Held L → Return → Deed L

-- A worker. `held` are its transfers, in order of claim, and `set_aside` the ends that were refused memory. `idle` are its idle links.
-- `is_stopping` says whether it was told to stop, and `can_go_on` whether something of its own could go on at once after this turn.
-- `did` is what it did at the engine so far, and `said` what its gate said, each in order.
pub record Worker (L : Type 0) : Type 0 where
  pub held : List (Held L)
  pub set_aside : List SetAside
  pub idle : Idle L
  pub is_stopping : Bool
  pub can_go_on : Bool
  pub did : List (Deed L)
  pub said : List Said

-- rule turn-in-flight: A worker has at most 64 transfers and unrecorded ends in flight.
--
-- how many transfers and ends it has in flight
abbrev pub in_hand : {L : Type 0} → Worker L → ℕ
in_hand w = length w.held + length w.set_aside

-- it did one thing more
abbrev pub does : {L : Type 0} → Worker L → Deed L → Worker L
does w deed = record w { did = w.did ++ deed ∷ [] }

-- its gate said one thing more
abbrev pub hears : {L : Type 0} → Worker L → Said → Worker L
hears w said = record w { said = w.said ++ said ∷ [] }

-- it holds one transfer more, after the others
abbrev pub holds : {L : Type 0} → Worker L → Held L → Worker L
holds w h = record w { held = w.held ++ h ∷ [] }

-- it has nothing in flight, keeps so many idle links at most and none yet, and did nothing
abbrev pub starts : {L : Type 0} → ℕ → Worker L
starts limit = record {
  held = [];
  set_aside = [];
  idle = record { links = []; limit = limit };
  is_stopping = false;
  can_go_on = false;
  did = [];
  said = [];
}

-- rule turn-over: A worker is over once it was told to stop and has nothing in flight.
abbrev pub IsOver : {L : Type 0} → Worker L → Type 0
IsOver w = (w.is_stopping ≡ true) × (w.held ≡ []) × (w.set_aside ≡ [])
