-- What a claim takes: one ticket, which nobody had claimed.
use Rattle.std.proofs.Common.{◌≡◌, ◌∙◌, sym, refl, ap, subst, List, [], ◌∷◌, Bool, true, false, cond, arith, inl, inr}
use Rattle.std.specs.Prelude.{not, ◌||◌}
use Rattle.std.specs.List.{AllByRecursion, filter}
use Rattle.std.proofs.lemmas.Bool.{cases_Bool, false≢true, or_left, or_right}
use Rattle.mx_types.specs.declared.names.Ticket.{Ticket}
use Rattle.mx_types.specs.declared.event.Event.{Event}
use Rattle.mx_journal.specs.History.{IsInOrder, has_ticket, is_legal, occurs, ends, running, same_ticket}
use Rattle.mx_journal.specs.Core.{claimed, queued}
use Rattle.mx_history.proofs.Histories.{tickets}
use Rattle.mx_history.proofs.Lists.{has-filter, has-stays, same-is, same-refl}
use Rattle.mx_history.proofs.Tickets.{in_order-filter, ordered}
use Rattle.mx_lock.specs.Lock.{newly}
use Rattle.mx_lock.proofs.Claims.{claims_first}

only_new : (t : Ticket) (p : Ticket → Bool) (after : List Ticket) → ((u : Ticket) → has_ticket u after ≡ true → p u ≡ true → u ≡ t) → AllByRecursion (λ u. u ≡ t) (filter p after)
only_new t p [] h = tt
only_new t p (u ∷ after) h = go (p u) refl (only_new t p after (λ x k q. h x (or_right _ _ k) q)) where
  go : (b : Bool) → p u ≡ b → AllByRecursion (λ x. x ≡ t) (filter p after) → AllByRecursion (λ x. x ≡ t) (cond b (u ∷ filter p after) (filter p after))
  go true is rest = (h u (or_left _ _ (same-refl u)) is, rest)
  go false is rest = rest

-- tickets in order that are all this one are one
single : (t : Ticket) (ts : List Ticket) → AllByRecursion (λ u. u ≡ t) ts → IsInOrder ts → has_ticket t ts ≡ true → ts ≡ t ∷ []
single t [] all order has = absurd (false≢true has)
single t (u ∷ []) all order has = ap (λ (v : Ticket). v ∷ []) all.0
single t (u ∷ v ∷ ts) all order has =
    let first = ap (λ (x : Ticket). x.0) all.0 in
    let next = ap (λ (x : Ticket). x.0) all.1.0 in
    let less = order.0.0 in
    absurd (omega (arith, first, next, less))

-- a ticket is new where it was first in the queue
pub claims_new : {Q : Type 0} (j k : List Event) (t : Ticket) (work : Q) (before after : List (Ticket × Q)) → is_legal k ≡ true → k ≡ j → before ≡ (t, work) ∷ after
    → has_ticket t (claimed k after) ≡ true → newly (claimed j before) (claimed k after) ≡ t ∷ []
claims_new {Q} j k t work before after legal same queue has =
    single t (filter (λ s. not (has_ticket s (claimed j before))) (claimed k after))
    (only_new t (λ s. not (has_ticket s (claimed j before))) (claimed k after) (λ u h n. one u (same_ticket u t) refl n (claims_first j k t work before after same queue u h)))
    (in_order-filter (λ s. not (has_ticket s (claimed j before))) (claimed k after)
    (in_order-filter (λ s. not (has_ticket s (queued after))) (running k) (in_order-filter (λ s. not (occurs (ends s) k)) (tickets k) (ordered k legal))))
    (has-stays t (λ s. not (has_ticket s (claimed j before))) (claimed k after) has (elim (cases_Bool (has_ticket t (claimed j before))) [
      | inl in_ ↦ absurd (false≢true (sym (ap not (waits before queue)) ∙ (has-filter t (λ s. not (has_ticket s (queued before))) (running j) in_).1))
      | inr off ↦ ap not off
    ]))
  where
    waits : (b : List (Ticket × Q)) → b ≡ (t, work) ∷ after → has_ticket t (queued b) ≡ true
    waits b e = subst (λ (z : List (Ticket × Q)). has_ticket t (queued z) ≡ true) (sym e) (or_left (same_ticket t t) (has_ticket t (queued after)) (same-refl t))

    one : (s : Ticket) (b : Bool) → same_ticket s t ≡ b → not (has_ticket s (claimed j before)) ≡ true → has_ticket s (t ∷ claimed j before) ≡ true → s ≡ t
    one s true is n k = same-is s t is
    one s false is n k = absurd (false≢true (sym (ap not (sym (ap (λ b. b || has_ticket s (claimed j before)) is) ∙ k)) ∙ n))
