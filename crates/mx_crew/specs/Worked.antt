-- What came of a worker of a run.
use Rattle.std.specs.Prelude.{◌≡◌, ℕ, true, false, List, [], ◌∷◌, ◌++◌}
use Rattle.std.specs.List.{AllByRecursion}
use Rattle.mx_link.specs.declared.answers.Answer.{Answer}
use Rattle.mx_gate.specs.Said.{Said, waited}
use Rattle.mx_chain.specs.Outcomes.{OutcomeValue}
use Rattle.mx_chain.specs.Chains.{ChainState}
use Rattle.mx_multi.specs.Seats.{SeatView}
use Rattle.mx_worker.specs.Work.{WorkerRan}
use Rattle.mx_crew.specs.Gates.{OpensWithin}
use Rattle.mx_crew.specs.declared.worked.Counts.{Counts}

-- the seat of a worker
abbrev pub WorkerSeatView : Type 0 → Type 0
WorkerSeatView L = SeatView (ChainState L) OutcomeValue

-- what a worker did that did nothing
abbrev pub no_counts : Counts
no_counts = record { recorded = 0; stale = 0; given_back = 0 }

-- for so many milliseconds a worker waits whose start was refused memory
abbrev pub again_ms : ℕ
again_ms = 20

-- Its start was refused memory each time, and its gate did not stop it: it waited, and did nothing else.
abbrev pub AreRefusals : List Said → Type 0
AreRefusals said = AllByRecursion (λ s. s ≡ waited again_ms false) said

-- A worker's one try, with its seat and all that its gate had said, before and after. It started, and did what a worker does; or its start was
-- refused memory and its gate stopped it, so it did nothing.
pub data EndsTry {L : Type 0} (history : L → List Answer) (token_of : L → ℕ) (s t : WorkerSeatView L) (was is : List Said) (counts : Counts) : Type 0 where
  ran : WorkerRan history token_of s t was is counts.recorded counts.stale counts.given_back → EndsTry history token_of s t was is counts
  refused : t ≡ s → is ≡ was ++ waited again_ms true ∷ [] → counts ≡ no_counts → EndsTry history token_of s t was is counts

-- rule worker-counts
--
-- A worker of a run ended, with its seat as the run began and as it ended, and with all that its gate said in the run: its last try was this.
pub record HasWorked {L : Type 0} (history : L → List Answer) (token_of : L → ℕ) (s t : WorkerSeatView L) (said : List Said) (counts : Counts) : Type 0 where
  pub before : List Said
  pub refusals : AreRefusals before
  pub ends : EndsTry history token_of s t before said counts

-- what contracts see of a worker that has ended: what it counted, its gate, its seat as the run began and as it ended, and all that it was told
-- in the run, by the run or by its gate
pub record WorkedState (L G : Type 0) : Type 0 where
  pub counts : Counts
  pub gate : G
  pub start : WorkerSeatView L
  pub last : WorkerSeatView L
  pub said : List Said

-- The worker of a slot with this seat and this gate has ended: it began with that seat. Its gate is one that had said all that the slot's had, and
-- opened what was opened in the run.
pub record IsOfSlot {L G : Type 0} (said : G → List Said) (slot_seat : WorkerSeatView L) (slot_gate : G) (worked : WorkedState L G) : Type 0 where
  pub seat : worked.start ≡ slot_seat
  pub gate : OpensWithin said (said slot_gate) worked.gate worked.said
