-- What the lock keeps, for contracts.
use Rattle.std.specs.Prelude.{ℕ, List, ◌≡◌, Bool, true, false}
use Rattle.logbook.specs.Pages.{Book}
use Rattle.mx_types.specs.declared.names.Ticket.{Ticket}
use Rattle.mx_types.specs.declared.event.Event.{Event}
use Rattle.mx_journal.specs.History.{Opening, has_ticket, is_legal}
use Rattle.mx_types.specs.declared.event.Who.{Who}
use Rattle.mx_types.specs.declared.call.Call.{Call}
use Rattle.mx_types.specs.declared.reply.Reply.{Reply}
use Rattle.mx_types.specs.declared.reply.Reply.TheVariants as reply
use Rattle.mx_journal.specs.Answers.{Answers}
use Rattle.mx_journal.specs.Receipts.{comes_with_event}
use Rattle.mx_journal.specs.Called.{Called, out_after}
use Rattle.mx_journal.specs.Core.{Core, IsSound, claimed, with_out}
use Rattle.mx_board.specs.Board.{BoardState, name_of}
use Rattle.mx_types.specs.declared.code.Code.{Code}
use Rattle.mx_types.specs.declared.origin.Origin.{Origin}
use Rattle.mx_lock.specs.Ties.{IsTied, TieState}

-- the control state, the journal of the version that is published, which journal it is, and the requests of additions
pub record EngineState (Q O : Type 0) : Type 0 where
  pub core : Core Q O
  pub published : List Event
  pub book : Book
  pub ties : TieState

-- which engine it is: its journal, what it was opened with, and its list of ties
pub record EngineId : Type 0 where
  pub book : Book
  pub opening : Opening
  pub ties : Book

-- what the rule of the lock sees of it: the journal, which engine it is, and the tickets that run and don't wait for a worker
pub record Content : Type 0 where
  pub journal : List Event
  pub engine : EngineId
  pub claimed : List Ticket

abbrev pub content : {Q O : Type 0} → EngineState Q O → Content
content x = record { journal = x.core.journal; engine = record { book = x.book; opening = x.core.opening; ties = x.ties.book }; claimed = claimed x.core.journal x.core.queue }

-- rule multi-lock: The lock holds a sound control state, and the version that is published is that of its journal.
pub record IsLocked {Q O : Type 0} (code : O → Code) (size : O → ℕ) (x : EngineState Q O) : Type 0 where
  pub sound : IsSound code size x.core.opening.history x.core.journal x.core.queue x.core.endings
  pub published : x.published ≡ x.core.journal

-- rule multi-woken: A wake-up and a recorded end wake those that poll, and no other call does.
--
-- the answers of calls whose event lets a poll return: a wake-up, and an end that was recorded
abbrev pub lets_polls_return : Reply → Bool
lets_polls_return reply.Ok = true
lets_polls_return reply.Recorded = true
lets_polls_return _ = false

-- rule multi-queue: While a seat has the lock, work leaves the queue only by a claim of that seat.
--
-- the second list has no ticket that the first hasn't
abbrev pub HasNoOther : List Ticket → List Ticket → Type 0
HasNoOther before after = (t : Ticket) → has_ticket t after ≡ true → has_ticket t before ≡ true

-- what a call of the core says, where the board is its log
abbrev pub CalledOn : {Q O : Type 0} → Who → Call → Core Q O → Core Q O → BoardState → BoardState → Reply → Type 0
CalledOn who call old new before after reply = Called (λ (w : BoardState). w.events) (λ (w : BoardState). name_of w.book) (λ (w : BoardState). Unit {0}) who call old new before after reply

-- An operation makes the core's call, with the board as its log. No work leaves the queue but that which runs no more. The list of ties is
-- the same list, and has the request of each addition afterwards, too.
pub record Makes {Q O : Type 0} (ending : O → Origin) (who : Who) (call : Call) (old new : Core Q O) (before after : BoardState) (ties grown : TieState) (reply : Reply) : Type 0 where
  pub called : CalledOn who call old new before after reply
  pub claims : HasNoOther (claimed old.journal old.queue) (claimed new.journal new.queue)
  pub list : grown.book ≡ ties.book
  pub tied : IsTied ending new grown.entries

-- The call was answered after the journal that the engine had, and left the engine with that journal or one event more.
-- It is the same engine, and legal; and no work left the queue but that which runs no more. A call that comes with no event changes nothing
-- but, where its claim was stale, the number of claims that are out.
pub record Leaves {Q O : Type 0} (who : Who) (call : Call) (x : EngineState Q O) (reply : Reply) (y : EngineState Q O) : Type 0 where
  pub answers : Answers x.core.opening who call x.core.journal reply y.core.journal
  pub opening : y.core.opening ≡ x.core.opening
  pub book : y.book ≡ x.book
  pub ties : y.ties.book ≡ x.ties.book
  pub legal : is_legal y.core.journal ≡ true
  pub claims : HasNoOther (content x).claimed (content y).claimed
  pub out : y.core.out ≡ out_after reply x.core.out
  pub unchanged : comes_with_event reply ≡ false → y.core ≡ with_out (out_after reply x.core.out) x.core

-- the engine was left with the journal that was found
pub record IsLeft {Q O : Type 0} (x y : EngineState Q O) : Type 0 where
  pub journal : y.core.journal ≡ x.core.journal
  pub opening : y.core.opening ≡ x.core.opening
  pub book : y.book ≡ x.book
  pub ties : y.ties.book ≡ x.ties.book
  pub legal : is_legal y.core.journal ≡ true
