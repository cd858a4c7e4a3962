-- An addition has the next ticket, which numbers its request.
use Rattle.std.proofs.Common.{◌≡◌, Bool, true, false, cond, List, [], ◌∷◌, ◌++◌, Option, Some, None, refl, sym, ap, ◌∙◌}
use Rattle.std.specs.Prelude.{length, slice_get}
use Rattle.std.proofs.lemmas.Bool.{false≢true}
use Rattle.mx_types.specs.declared.names.HandleId.{HandleId}
use Rattle.mx_types.specs.declared.names.Ticket.{Ticket}
use Rattle.mx_types.specs.declared.event.Who.{Who}
use Rattle.mx_types.specs.declared.event.What.TheVariants as what
use Rattle.mx_types.specs.declared.event.Event.{Event}
use Rattle.mx_types.specs.declared.call.Call.TheVariants as call
use Rattle.mx_types.specs.declared.reply.Reply.{Reply}
use Rattle.mx_types.specs.declared.reply.Reply.TheVariants as reply
use Rattle.mx_types.specs.declared.origin.Origin.{Origin}
use Rattle.mx_request.specs.Request.{RequestValue, request_origin}
use Rattle.mx_history.specs.History.{Opening}
use Rattle.mx_history.specs.Answers.{Answer, Answers, are_spent, next_ticket, only, ticket_of}
use Rattle.mx_journal.specs.Replies.{origins_added, reply_of_add}
use Rattle.mx_journal.specs.declared.replies.AddReply.{AddReply}
use Rattle.mx_journal.specs.declared.replies.AddReply.TheVariants as add
use Rattle.mx_solo.specs.Seats.{IsAdded}

-- the answer to an addition, by what it depends on
abbrev adding : HandleId → Ticket → Option Ticket → Bool → Bool → Bool → Answer
adding h n o full spent room =
    elim o as (λ _. Answer) [
      | Some _ ↦ only reply.AddedAlready
      | None ↦ cond full (only reply.TableFull) (cond spent (only reply.TicketsSpent) (cond room (reply.Added n, Some (what.Added h n)) (only reply.HistoryFull)))
    ]

abbrev is_added : Reply → Bool
is_added (reply.Added t) = true
is_added _ = false

its_ticket : (h : HandleId) (n : Ticket) (o : Option Ticket) (full spent room : Bool) (t : Ticket) → reply.Added t ≡ (adding h n o full spent room).0 → t ≡ n
its_ticket h n (Some u) full spent room t e = absurd (false≢true (sym (ap is_added e)))
its_ticket h n None true spent room t e = absurd (false≢true (sym (ap is_added e)))
its_ticket h n None false true room t e = absurd (false≢true (sym (ap is_added e)))
its_ticket h n None false false true t e = cc
its_ticket h n None false false false t e = absurd (false≢true (sym (ap is_added e)))

added_as : (opening : Opening) (w : Who) (h : HandleId) (j : List Event) (t : Ticket) (k : List Event) → Answers opening w (call.Add h) j (reply.Added t) k → t ≡ next_ticket opening j
added_as opening w h j t k a = its_ticket h (next_ticket opening j) (ticket_of h j) _ (are_spent opening j) _ t a.0

gets_last : {X : Type 0} (xs : List X) (x : X) → slice_get (xs ++ x ∷ []) (length xs) ≡ Some x
gets_last [] x = refl
gets_last (y ∷ xs) x = gets_last xs x

-- an addition that was taken is of its request
pub adds_own : {Q : Type 0} (opening : Opening) (w : Who) (h : HandleId) (j k : List Event) (r : AddReply Q) (origins all : List Origin) (request : RequestValue) → length origins ≡ (next_ticket opening j).0 → all ≡ origins_added r origins (request_origin request)
    → Answers opening w (call.Add h) j (reply_of_add r) k → IsAdded r all request
adds_own opening w h j k (add.Added t) origins all request each grown a =
    let at : t.0 ≡ length origins = ap (λ (u : Ticket). u.0) (added_as opening w h j t k a) ∙ sym each in
    ap (λ (l : List Origin). slice_get l t.0) grown ∙ ap (slice_get (origins ++ request_origin request ∷ [])) at ∙ gets_last origins (request_origin request)
adds_own opening w h j k (add.AddedAlready b) origins all request each grown a = tt
adds_own opening w h j k (add.TableFull b) origins all request each grown a = tt
adds_own opening w h j k (add.TicketsSpent b) origins all request each grown a = tt
adds_own opening w h j k (add.HistoryFull b) origins all request each grown a = tt
adds_own opening w h j k (add.OutOfMemory b) origins all request each grown a = tt
