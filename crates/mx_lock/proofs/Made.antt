-- What the answer of an addition, and of an end, says of the journal.
use Rattle.std.proofs.Common.{◌≡◌, ℕ, sym, refl, ap, List, Bool, true, false, cond}
use Rattle.std.specs.Prelude.{Option, Some, None}
use Rattle.std.proofs.lemmas.Bool.{false≢true}
use Rattle.mx_types.specs.declared.names.HandleId.{HandleId}
use Rattle.mx_types.specs.declared.names.Ticket.{Ticket}
use Rattle.mx_types.specs.declared.code.Code.{Code}
use Rattle.mx_types.specs.declared.event.Who.{Who}
use Rattle.mx_types.specs.declared.event.What.TheVariants as what
use Rattle.mx_types.specs.declared.event.Event.{Event}
use Rattle.mx_types.specs.declared.call.Call.TheVariants as call
use Rattle.mx_types.specs.declared.reply.Reply.{Reply}
use Rattle.mx_types.specs.declared.reply.Reply.TheVariants as reply
use Rattle.mx_journal.specs.History.{Opening, has_ticket, running}
use Rattle.mx_journal.specs.Answers.{Answers, are_spent, next_ticket, only, ticket_of}
use Rattle.mx_lock.proofs.Claims.{adding, is_added}

its_ticket : (h : HandleId) (n : Ticket) (o : Option Ticket) (full spent room : Bool) (t : Ticket) → reply.Added t ≡ (adding h n o full spent room).0 → t ≡ n
its_ticket h n (Some u) full spent room t e = absurd (false≢true (sym (ap is_added e)))
its_ticket h n None true spent room t e = absurd (false≢true (sym (ap is_added e)))
its_ticket h n None false true room t e = absurd (false≢true (sym (ap is_added e)))
its_ticket h n None false false true t e = cc
its_ticket h n None false false false t e = absurd (false≢true (sym (ap is_added e)))

-- an addition has the next ticket
pub added_as : (opening : Opening) (w : Who) (h : HandleId) (j : List Event) (t : Ticket) (k : List Event) → Answers opening w (call.Add h) j (reply.Added t) k → t ≡ next_ticket opening j
added_as opening w h j t k a = its_ticket h (next_ticket opening j) (ticket_of h j) _ (are_spent opening j) _ t a.0

abbrev is_recorded : Reply → Bool
is_recorded reply.Recorded = true
is_recorded _ = false

-- an end that was recorded is of a ticket that runs
pub recorded_runs : (opening : Opening) (w : Who) (t : Ticket) (code : Code) (size : ℕ) (j k : List Event) → Answers opening w (call.Finish t code size) j reply.Recorded k → has_ticket t (running j) ≡ true
recorded_runs opening w t code size j k a = by (has_ticket t (running j)) a.0
  where
    by : (b : Bool) → reply.Recorded ≡ (cond b (reply.Recorded, Some (what.Done t code size)) (only reply.Stale)).0 → b ≡ true
    by true is = refl
    by false is = absurd (false≢true (sym (ap is_recorded is)))
