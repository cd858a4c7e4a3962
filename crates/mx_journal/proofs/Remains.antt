-- What of the queue and of the endings remains after an end or a removal.
use Rattle.std.proofs.Common.{◌≡◌, ℕ, ◌∙◌, sym, refl, ap, List, [], ◌∷◌, ◌++◌, append-nil, Bool, true, false, map, inl, inr}
use Rattle.std.specs.Prelude.{not, ◌||◌}
use Rattle.std.specs.List.{filter, list_any, AllByRecursion}
use Rattle.std.proofs.lemmas.Bool.{cases_Bool, false_from_ne_true, false≢true, not-true, or_left, or_right}
use Rattle.std.proofs.lemmas.List.{map-append}
use Rattle.mx_types.specs.declared.code.Code.{Code}
use Rattle.mx_types.specs.declared.names.HandleId.{HandleId}
use Rattle.mx_types.specs.declared.names.Ticket.{Ticket}
use Rattle.mx_types.specs.declared.event.Who.{Who}
use Rattle.mx_types.specs.declared.event.What.{What}
use Rattle.mx_types.specs.declared.event.What.TheVariants as what
use Rattle.mx_types.specs.declared.event.Event.{Event}
use Rattle.mx_history.specs.History.{Message, same_ticket, occurs, removes, ends, running, waiting, has_ticket}
use Rattle.mx_journal.specs.Core.{queued, message, still_running, still_waiting}
use Rattle.mx_history.specs.Laws.{then}
use Rattle.mx_history.proofs.Snoc.{occurs-snoc}
use Rattle.mx_history.proofs.Lists.{filter_true, filter_where, has-filter, has-append_left, same-is, same-refl}
use Rattle.mx_history.proofs.Histories.{tickets, tickets-removed, waiting-then, filter_messages}
use Rattle.mx_history.proofs.Tables.{has-kept}
use Rattle.mx_history.proofs.Tickets.{runs-then, wait_tickets}

all_stay : {X : Type 0} (P : X → Type 0) (p : X → Bool) → ((x : X) → P x → p x ≡ true) → (xs : List X) → AllByRecursion P xs → filter p xs ≡ xs
all_stay P p h xs a = filter_where P p (λ _. true) h xs a ∙ filter_true xs

-- 1. The queue.

each_runs : {Q : Type 0} (j : List Event) (queue : List (Ticket × Q)) → AllByRecursion (λ t. has_ticket t (running j) ≡ true) (queued queue)
    → AllByRecursion (λ (x : Ticket × Q). has_ticket x.0 (running j) ≡ true) queue
each_runs j [] a = tt
each_runs j (x ∷ queue) a = (a.0, each_runs j queue a.1)

-- with no event all of it stays
pub queue_stays : {Q : Type 0} (j : List Event) (queue : List (Ticket × Q)) → AllByRecursion (λ t. has_ticket t (running j) ≡ true) (queued queue) → still_running j queue ≡ queue
queue_stays {Q} j queue a =
    all_stay (λ (x : Ticket × Q). has_ticket x.0 (running j) ≡ true) (λ (x : Ticket × Q). has_ticket x.0 (running j)) (λ _ h. h) queue (each_runs j queue a)

-- an event after which the ticket, and no other, runs no more
runs_but : (j : List Event) (w : Who) (e : What) (t u : Ticket) → has_ticket t (running (then j w e)) ≡ false
    → (same_ticket u t ≡ false → ends u e ≡ false) → (same_ticket u t ≡ false → removes u e ≡ false)
    → has_ticket u (running j) ≡ true → has_ticket u (running (then j w e)) ≡ not (same_ticket u t)
runs_but j w e t u gone f r h =
    elim (cases_Bool (same_ticket u t)) [
      | inl s ↦ ap (λ v. has_ticket v (running (then j w e))) (same-is u t s) ∙ gone ∙ ap not (sym s)
      | inr off ↦ runs-then j w e u h (f off) (r off) ∙ ap not (sym off)
    ]

queue_but : {Q : Type 0} (j : List Event) (w : Who) (e : What) (t : Ticket) (queue : List (Ticket × Q)) → has_ticket t (running (then j w e)) ≡ false
    → ((u : Ticket) → same_ticket u t ≡ false → ends u e ≡ false) → ((u : Ticket) → same_ticket u t ≡ false → removes u e ≡ false)
    → AllByRecursion (λ t. has_ticket t (running j) ≡ true) (queued queue)
    → filter (λ x. not (same_ticket x.0 t)) queue ≡ still_running (then j w e) queue
queue_but {Q} j w e t queue gone f r a =
    sym (filter_where (λ (x : Ticket × Q). has_ticket x.0 (running j) ≡ true) (λ (x : Ticket × Q). has_ticket x.0 (running (then j w e))) (λ (x : Ticket × Q). not (same_ticket x.0 t))
    (λ x h. runs_but j w e t x.0 gone (f x.0) (r x.0) h) queue (each_runs j queue a))

removed_gone : (j : List Event) (w : Who) (h : HandleId) (t : Ticket) → has_ticket t (running (then j w (what.Removed h t))) ≡ false
removed_gone j w h t =
    let k = then j w (what.Removed h t) in
    false_from_ne_true _ (λ y. false≢true (sym (not-true _ (has-filter t (λ u. not (same_ticket u t)) (tickets j)
    (ap (has_ticket t) (sym (tickets-removed j w h t)) ∙ (has-filter t (λ u. not (occurs (ends u) k)) (tickets k) y).0)).1) ∙ same-refl t))

ended_gone : (j : List Event) (w : Who) (t : Ticket) (c : Code) (n : ℕ) → has_ticket t (running (then j w (what.Done t c n))) ≡ false
ended_gone j w t c n =
    let k = then j w (what.Done t c n) in
    false_from_ne_true _ (λ y. false≢true (sym (not-true _ (has-filter t (λ u. not (occurs (ends u) k)) (tickets k) y).1)
    ∙ occurs-snoc (ends t) j (record { who = w; what = what.Done t c n }) ∙ or_right _ _ (same-refl t)))

pub queue_removed : {Q : Type 0} (j : List Event) (w : Who) (h : HandleId) (t : Ticket) (queue : List (Ticket × Q)) → AllByRecursion (λ t. has_ticket t (running j) ≡ true) (queued queue)
    → filter (λ x. not (same_ticket x.0 t)) queue ≡ still_running (then j w (what.Removed h t)) queue
queue_removed j w h t queue a = queue_but j w (what.Removed h t) t queue (removed_gone j w h t) (λ u off. refl) (λ u off. off) a

pub queue_ended : {Q : Type 0} (j : List Event) (w : Who) (t : Ticket) (c : Code) (n : ℕ) (queue : List (Ticket × Q)) → AllByRecursion (λ t. has_ticket t (running j) ≡ true) (queued queue)
    → filter (λ x. not (same_ticket x.0 t)) queue ≡ still_running (then j w (what.Done t c n)) queue
queue_ended j w t c n queue a = queue_but j w (what.Done t c n) t queue (ended_gone j w t c n) (λ u off. off) (λ u off. refl) a

-- 2. The endings.

abbrev waits : Ticket → List Message → Bool
waits t ms = list_any (λ m. same_ticket t m.ticket) ms

waits-tickets : (t : Ticket) (ms : List Message) → waits t ms ≡ has_ticket t (map (λ m. m.ticket) ms)
waits-tickets t [] = refl
waits-tickets t (m ∷ ms) = ap (λ b. same_ticket t m.ticket || b) (waits-tickets t ms)

each_of : {O : Type 0} (code : O → Code) (size : O → ℕ) (ms : List Message) (endings : List (Ticket × O))
    → ((t : Ticket) → waits t (map (message code size) endings) ≡ true → waits t ms ≡ true) → AllByRecursion (λ (x : Ticket × O). waits x.0 ms ≡ true) endings
each_of code size ms [] h = tt
each_of code size ms (x ∷ endings) h = (h x.0 (or_left _ _ (same-refl x.0)), each_of code size ms endings (λ t k. h t (or_right _ _ k)))

each_waits : {O : Type 0} (code : O → Code) (size : O → ℕ) (j : List Event) (endings : List (Ticket × O)) → map (message code size) endings ≡ waiting j
    → AllByRecursion (λ (x : Ticket × O). waits x.0 (waiting j) ≡ true) endings
each_waits code size j endings e = each_of code size (waiting j) endings (λ t h. ap (waits t) (sym e) ∙ h)

pub endings_stay : {O : Type 0} (code : O → Code) (size : O → ℕ) (j : List Event) (endings : List (Ticket × O)) → map (message code size) endings ≡ waiting j
    → still_waiting j endings ≡ endings
endings_stay {O} code size j endings e =
    all_stay (λ (x : Ticket × O). waits x.0 (waiting j) ≡ true) (λ (x : Ticket × O). waits x.0 (waiting j)) (λ _ h. h) endings (each_waits code size j endings e)

removed_waits : (j : List Event) (w : Who) (h : HandleId) (t u : Ticket) → waits u (waiting j) ≡ true → waits u (waiting (then j w (what.Removed h t))) ≡ not (same_ticket u t)
removed_waits j w h t u k =
    ap (waits u) (waiting-then j w (what.Removed h t) ∙ append-nil _) ∙ waits-tickets u (filter (λ m. not (same_ticket m.ticket t)) (waiting j))
    ∙ ap (has_ticket u) (filter_messages (λ v. not (same_ticket v t)) (waiting j))
    ∙ has-kept u (λ v. not (same_ticket v t)) (wait_tickets j) (sym (waits-tickets u (waiting j)) ∙ k)

pub endings_removed : {O : Type 0} (code : O → Code) (size : O → ℕ) (j : List Event) (w : Who) (h : HandleId) (t : Ticket) (endings : List (Ticket × O))
    → map (message code size) endings ≡ waiting j → filter (λ x. not (same_ticket x.0 t)) endings ≡ still_waiting (then j w (what.Removed h t)) endings
endings_removed {O} code size j w h t endings e =
    sym (filter_where (λ (x : Ticket × O). waits x.0 (waiting j) ≡ true) (λ (x : Ticket × O). waits x.0 (waiting (then j w (what.Removed h t)))) (λ (x : Ticket × O). not (same_ticket x.0 t))
    (λ x k. removed_waits j w h t x.0 k) endings (each_waits code size j endings e))

ended_waits : (j : List Event) (w : Who) (t : Ticket) (c : Code) (n : ℕ) (u : Ticket) → waits u (waiting j) ≡ true → waits u (waiting (then j w (what.Done t c n))) ≡ true
ended_waits j w t c n u k =
    waits-tickets u (waiting (then j w (what.Done t c n)))
    ∙ ap (has_ticket u) (ap (map (λ (m : Message). m.ticket)) (waiting-then j w (what.Done t c n)
    ∙ ap (λ (ms : List Message). ms ++ record { ticket = t; code = c; size = n } ∷ []) (filter_true (waiting j))) ∙ map-append (λ (m : Message). m.ticket) (waiting j) (record { ticket = t; code = c; size = n } ∷ []))
    ∙ has-append_left u (wait_tickets j) (t ∷ []) (sym (waits-tickets u (waiting j)) ∙ k)

pub endings_ended : {O : Type 0} (code : O → Code) (size : O → ℕ) (j : List Event) (w : Who) (t : Ticket) (c : Code) (n : ℕ) (endings : List (Ticket × O))
    → map (message code size) endings ≡ waiting j → still_waiting (then j w (what.Done t c n)) endings ≡ endings
endings_ended {O} code size j w t c n endings e =
    all_stay (λ (x : Ticket × O). waits x.0 (waiting j) ≡ true) (λ (x : Ticket × O). waits x.0 (waiting (then j w (what.Done t c n)))) (λ x k. ended_waits j w t c n x.0 k)
    endings (each_waits code size j endings e)
