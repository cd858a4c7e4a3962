-- What seats were told of the requests of additions.
use Rattle.std.proofs.Common.{◌≡◌, inl, inr, sym, subst, ℕ}
use Rattle.std.specs.Prelude.{◌⊎◌, MatchResult, Result, Ok, Err}
use mathlib.Core.List.{IsPrefix}
use Rattle.mx_types.specs.declared.call.Call.{Call}
use Rattle.mx_types.specs.declared.call.Call.TheVariants as call
use Rattle.mx_types.specs.declared.names.HandleId.{HandleId}
use Rattle.mx_types.specs.declared.names.Ticket.{Ticket}
use Rattle.mx_types.specs.declared.reply.Reply.{Reply}
use Rattle.mx_types.specs.declared.reply.Reply.TheVariants as reply
use Rattle.mx_chain.specs.Outcomes.{OutcomeValue}
use Rattle.mx_multi.specs.Seats.{SeatView, Stands}
use Rattle.mx_append_log.proofs.Prefixes.{prefix_self, prefix_trans}
use Rattle.mx_message.specs.Message.{IsNextEnd, Unread, Waited}
use Rattle.mx_desk.specs.Ties.{AreLater, SeatTies}

-- a seat that was answered, or was not, has been told no less
pub told_on : {Q A W : Type 0} (s t : SeatView Q OutcomeValue) (c : Call) (reply_of : A → Reply) (answer : Result A W) (P : W → Type 0)
    → MatchResult answer (λ r. Stands s t c (reply_of r)) (λ w. (t ≡ s) × P w) → IsPrefix s.ties t.ties
told_on s t c reply_of (Ok r) P h = h.ties
told_on s t c reply_of (Err w) P h = subst (λ (u : SeatView _ OutcomeValue). IsPrefix s.ties u.ties) (sym h.0) (prefix_self s.ties)

pub told_or_same : {Q A W : Type 0} (s t : SeatView Q OutcomeValue) (c : Call) (reply_of : A → Reply) (answer : Result A W)
    → MatchResult answer (λ r. Stands s t c (reply_of r)) (λ _. t ≡ s) → IsPrefix s.ties t.ties
told_or_same s t c reply_of (Ok r) h = h.ties
told_or_same s t c reply_of (Err w) h = subst (λ (u : SeatView _ OutcomeValue). IsPrefix s.ties u.ties) (sym h) (prefix_self s.ties)

-- nor has one that waited for a message, whether one was read
pub told_waited : {Q : Type 0} (s t : SeatView Q OutcomeValue) → Waited s t → IsPrefix s.ties t.ties
told_waited s t w = w.later.ties

pub told_unread : {Q : Type 0} (s t : SeatView Q OutcomeValue) → Unread s t → IsPrefix s.ties t.ties
told_unread {Q} s t u = decide u.last where
  decide : (t ≡ u.at) ⊎ Stands u.at t call.InfoRead reply.OutOfMemory → IsPrefix s.ties t.ties
  decide (inl e) = subst (λ (v : SeatView Q OutcomeValue). IsPrefix s.ties v.ties) (sym e) u.waited.later.ties
  decide (inr h) = prefix_trans s.ties u.at.ties t.ties u.waited.later.ties h.ties

pub told_read : {Q : Type 0} (s t : SeatView Q OutcomeValue) (h : HandleId) (ticket : Ticket) (o : OutcomeValue) (left : ℕ) → IsNextEnd s t h ticket o left → IsPrefix s.ties t.ties
told_read s t h ticket o left m = prefix_trans s.ties m.at.ties t.ties m.waited.later.ties m.stands.ties

-- one of two seats was told more
pub first_later : (old new : SeatTies) → IsPrefix old.first new.first → new.beside ≡ old.beside → AreLater old new
first_later old new more same = record { first = more; beside = subst (IsPrefix old.beside) (sym same) (prefix_self old.beside) }

pub beside_later : (old new : SeatTies) → IsPrefix old.beside new.beside → new.first ≡ old.first → AreLater old new
beside_later old new more same = record { first = subst (IsPrefix old.first) (sym same) (prefix_self old.first); beside = more }
