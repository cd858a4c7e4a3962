-- The request of each addition: a list that only grows, beside the journal and over all retirings. Tickets number the additions, so the
-- request of a ticket is at its number.
use Rattle.std.specs.Prelude.{ℕ, ◌≡◌, List, length, Option, Some, None}
use Rattle.logbook.specs.Pages.{Book}
use Rattle.mx_append_log.specs.Log.{Mark}
use Rattle.mx_types.specs.declared.names.HandleId.{HandleId}
use Rattle.mx_types.specs.declared.names.Ticket.{Ticket}
use Rattle.mx_types.specs.declared.origin.Origin.{Origin}
use Rattle.mx_journal.specs.Answers.{next_ticket}
use Rattle.mx_journal.specs.Core.{AreOwn, Claimed, Core, origin_of}
use Rattle.mx_journal.specs.declared.replies.AddReply.{AddReply}
use Rattle.mx_journal.specs.declared.replies.AddReply.TheVariants as add
use Rattle.mx_journal.specs.declared.replies.InfoReply.{InfoReply}
use Rattle.mx_journal.specs.declared.replies.InfoReply.TheVariants as info

-- the requests of the additions so far, in their order, and which list it is
abbrev pub TieState : Type 0
TieState = Mark Origin

-- the addition under the ticket is of this request
pub record Tie : Type 0 where
  pub ticket : Ticket
  pub origin : Origin

abbrev pub tie : Ticket → Origin → Tie
tie t origin = record { ticket = t; origin = origin }

-- rule multi-origins: An addition has the request of its work, and so has the ending of its message, for every seat, whichever worker ended
-- it.
abbrev pub Has : List Origin → Tie → Type 0
Has ties x = origin_of x.ticket ties ≡ Some x.origin

-- what an answer shows: an addition is of its work's request, and the addition of a message's ticket is of its ending's
abbrev pub tie_added : {Q : Type 0} → AddReply Q → Origin → Option Tie
tie_added (add.Added t) origin = Some (tie t origin)
tie_added _ origin = None

abbrev pub tie_read : {O : Type 0} → (O → Origin) → InfoReply O → Option Tie
tie_read origin (info.Message h t o left) = Some (tie t (origin o))
tie_read origin _ = None

-- what was shown is in the list
abbrev pub Tells : Option Tie → List Origin → Type 0
Tells None ties = Unit {0}
Tells (Some x) ties = Has ties x

-- rule multi-claims: A claim is finished, or requeued, at the multi handle that made it, with an ending or work of its request.
--
-- a claim, with the list that has the tie of its addition
pub record TiedClaimed : Type 0 where
  pub handle : HandleId
  pub ticket : Ticket
  pub slot : ℕ
  pub origin : Origin
  pub of : Book

abbrev pub tied : Claimed → Book → TiedClaimed
tied c of = record { handle = c.handle; ticket = c.ticket; slot = c.slot; origin = c.origin; of = of }

-- rule multi-origins
-- The ties of a control state are the origins of its additions, and each ending that waits is of its ticket's.
pub record IsTied {Q O : Type 0} (ending : O → Origin) (core : Core Q O) (ties : List Origin) : Type 0 where
  pub same : core.origins ≡ ties
  pub endings : AreOwn ending ties core.endings

-- There is a tie for each ticket below the next; and work that is queued, and endings that wait, are of the request of their ticket's
-- addition.
pub record AreOfAdditions {Q O : Type 0} (work : Q → Origin) (ending : O → Origin) (core : Core Q O) (ties : List Origin) : Type 0 where
  pub each : length ties ≡ (next_ticket core.opening core.journal).0
  pub queue : AreOwn work ties core.queue
  pub endings : AreOwn ending ties core.endings
