-- The tickets of a history: those that are added, in order, and those whose message waits, each once.
use Rattle.std.proofs.Common.{◌≡◌, ℕ, ◌+◌, ◌<◌, ◌≤◌, ◌∙◌, sym, refl, ap, subst, List, [], ◌∷◌, ◌++◌, append-nil, append_assoc, inl, inr, length, Bool, true, false, cond, map, arith}
use Rattle.std.specs.Prelude.{not, ◌&&◌, ◌||◌, Option, Some, None, nat_le}
use Rattle.std.specs.List.{filter, list_any, find, AllByRecursion}
use Rattle.std.specs.Option.{is_some, is_none, option_map, option_to_list}
use Rattle.std.proofs.lemmas.Bool.{eqb-false, le-leb, leb-true, false_from_ne_true, ne_eqb, cases_Bool, true≢false, and_from, or_left, false≢true, not_from_false, and_parts}
use Rattle.std.proofs.lemmas.List.{map-append, length-map}
use Rattle.std.proofs.lemmas.List.Sums.{length-filter, count_by-le-length}
use Rattle.mx_types.specs.Limits.{most_handles}
use Rattle.mx_types.specs.declared.names.HandleId.{HandleId}
use Rattle.mx_types.specs.declared.names.Ticket.{Ticket}
use Rattle.mx_types.specs.declared.event.Who.{Who}
use Rattle.mx_types.specs.declared.event.What.{What}
use Rattle.mx_types.specs.declared.event.What.TheVariants as what
use Rattle.mx_types.specs.declared.event.Event.{Event}
use Rattle.mx_history.specs.History.{Addition, Message, same_ticket, occurs, addition_of, message_of, removes, ends, reads, added, waiting, running, beyond, has_ticket, may_follow, is_legal, is_legal_after, has_room, same_handle, HasRoomForDue, IsInOrder, phase_of}
use Rattle.mx_history.specs.Answers.{ticket_of, handle_of}
use Rattle.mx_history.specs.declared.row.Row.{Row}
use Rattle.std.proofs.lemmas.Bool.Decides.{nat_tests}
use Rattle.mx_history.proofs.Snoc.{occurs-snoc, or_false}
use Rattle.mx_history.proofs.Lists.{Each-append, Each-filter, has-stays, has-filter, has-append_left, same-refl, same-is, at_ticket, Each-both}
use Rattle.mx_history.proofs.Histories.{tickets, Laws, laws, added-then, waiting-then, running-has, map-filter_tickets, filter_messages, laws-then, laws_none}
use Rattle.mx_history.specs.Laws.{then, IsOncePerTicket}
use Rattle.mx_history.proofs.TableLaws.{few}
use Rattle.mx_history.proofs.Tables.{not_found}
use Rattle.mx_history.specs.Rows.{is_open}
use Rattle.mx_history.specs.declared.row.Phase.TheVariants as phase
use Rattle.std.proofs.lemmas.List.Folds.{list_any-append}

-- 1. What an event does to the added and to the running tickets.

pub tickets-then : (j : List Event) (w : Who) (e : What)
    → tickets (then j w e) ≡ filter (λ t. not (removes t e)) (tickets j) ++ map (λ a. a.ticket) (option_to_list (addition_of e))
tickets-then j w e =
    ap (map (λ (a : Addition). a.ticket)) (added-then j w e)
    ∙ map-append (λ (a : Addition). a.ticket) (filter (λ a. not (removes a.ticket e)) (added j)) (option_to_list (addition_of e))
    ∙ ap (λ z. z ++ map (λ (a : Addition). a.ticket) (option_to_list (addition_of e))) (map-filter_tickets (λ t. not (removes t e)) (added j))

-- a running ticket runs on, unless it ends or is removed
pub runs-then : (j : List Event) (w : Who) (e : What) (u : Ticket) → has_ticket u (running j) ≡ true → ends u e ≡ false → removes u e ≡ false
    → has_ticket u (running (then j w e)) ≡ true
runs-then j w e u h f r =
    let k = has-filter u (λ t. not (occurs (ends t) j)) (tickets j) h in
    let i : has_ticket u (tickets (then j w e)) ≡ true =
    rw (tickets-then j w e) (has-append_left u _ _ (has-stays u (λ t. not (removes t e)) (tickets j) k.0 (not_from_false _ r))) in
    has-stays u (λ t. not (occurs (ends t) (then j w e))) (tickets (then j w e)) i
    (ap not (occurs-snoc (ends u) j (record { who = w; what = e }) ∙ ap (λ b. occurs (ends u) j || b) f ∙ or_false (occurs (ends u) j)) ∙ k.1)

-- 2. Added tickets rise.

in_order_kept : (t : Ticket) (ts : List Ticket) (b : Bool) → AllByRecursion (λ u. t.0 < u.0) ts → IsInOrder ts → IsInOrder (cond b (t ∷ ts) ts)
in_order_kept t ts true a h = (a, h)
in_order_kept t ts false a h = h

pub in_order-filter : (p : Ticket → Bool) (ts : List Ticket) → IsInOrder ts → IsInOrder (filter p ts)
in_order-filter p [] h = tt
in_order-filter p (t ∷ ts) h = in_order_kept t (filter p ts) (p t) (Each-filter p (λ u. t.0 < u.0) (λ u. t.0 < u.0) (λ _ _ x. x) ts h.0) (in_order-filter p ts h.1)

pub in_order-push : (ts : List Ticket) (t : Ticket) → IsInOrder ts → AllByRecursion (λ u. u.0 < t.0) ts → IsInOrder (ts ++ t ∷ [])
in_order-push [] t h a = (tt, tt)
in_order-push (u ∷ ts) t h a = (Each-append (λ v. u.0 < v.0) ts (t ∷ []) h.0 (a.0, tt), in_order-push ts t h.1 a.1)

pub queued-filter : {X : Type 0} (p : Ticket → Bool) (xs : List (Ticket × X)) → map (λ x. x.0) (filter (λ x. p x.0) xs) ≡ filter p (map (λ x. x.0) xs)
queued-filter p [] = refl
queued-filter {X} p (x ∷ xs) = go (p x.0) ∙ ap (λ z. cond (p x.0) (x.0 ∷ z) z) (queued-filter p xs)
  where
    go : (b : Bool) → map (λ (y : Ticket × X). y.0) (cond b (x ∷ filter (λ y. p y.0) xs) (filter (λ y. p y.0) xs))
        ≡ cond b (x.0 ∷ map (λ (y : Ticket × X). y.0) (filter (λ y. p y.0) xs)) (map (λ (y : Ticket × X). y.0) (filter (λ y. p y.0) xs))
    go true = refl
    go false = refl

has_later : (u y : Ticket) (ys : List Ticket) → y.0 < u.0 → has_ticket u (y ∷ ys) ≡ true → has_ticket u ys ≡ true
has_later u y ys lt h = ap (λ b. b || has_ticket u ys) (sym (ne_eqb u.0 y.0 (λ e. omega arith))) ∙ h

pub fewer : (xs ys : List Ticket) → IsInOrder xs → IsInOrder ys → AllByRecursion (λ t. has_ticket t ys ≡ true) xs → length xs ≤ length ys
fewer [] ys a b h = omega arith
fewer (x ∷ xs) [] a b h = absurd (false≢true h.0)
fewer (x ∷ xs) (y ∷ ys) a b h =
    elim (cases_Bool (same_ticket x y)) [
      | inl s ↦ (
          let e = same-is x y s in
          let later = Each-both (λ u. x.0 < u.0) (λ u. has_ticket u (y ∷ ys) ≡ true) (λ u. has_ticket u ys ≡ true)
          (λ u lt i. has_later u y ys (subst (λ (z : Ticket). z.0 < u.0) e lt) i) xs a.0 h.1 in
          let k = fewer xs ys a.1 b.1 later in omega arith
          )
      | inr s ↦ (
          let here : has_ticket x ys ≡ true = ap (λ b. b || has_ticket x ys) (sym s) ∙ h.0 in
          let above : y.0 < x.0 = at_ticket (λ u. y.0 < u.0) x ys b.0 here in
          let later = Each-both (λ u. x.0 < u.0) (λ u. has_ticket u (y ∷ ys) ≡ true) (λ u. has_ticket u ys ≡ true)
          (λ u lt i. has_later u y ys (omega arith) i) xs a.0 h.1 in
          let k = fewer (x ∷ xs) ys a b.1 (here, later) in omega arith
          )
    ]

ordered-then : (j : List Event) (w : Who) (e : What) → Laws j → may_follow j e ≡ true → IsInOrder (tickets j) → IsInOrder (tickets (then j w e))
ordered-then j w (what.Added h t) l m o =
    let new : beyond j ≤ t.0 = leb-true (beyond j) t.0 (and_parts _ (nat_le (beyond j) t.0) m).1 in
    rw (tickets-then j w (what.Added h t))
    (in_order-push (filter (λ u. true) (tickets j)) t (in_order-filter (λ u. true) (tickets j) o)
    (Each-filter (λ u. true) (λ u. (u.0 < beyond j) × (occurs (removes u) j ≡ false)) (λ u. u.0 < t.0) (λ u _ x. let b = x.0 in omega arith) (tickets j) l.kept))
ordered-then j w (what.Removed h t) l m o = rw (tickets-then j w (what.Removed h t)) (rw (append-nil (filter (λ u. not (same_ticket u t)) (tickets j))) (in_order-filter _ (tickets j) o))
ordered-then j w (what.Done t c n) l m o = rw (tickets-then j w (what.Done t c n)) (rw (append-nil (filter (λ u. true) (tickets j))) (in_order-filter (λ u. true) (tickets j) o))
ordered-then j w (what.Read t) l m o = rw (tickets-then j w (what.Read t)) (rw (append-nil (filter (λ u. true) (tickets j))) (in_order-filter (λ u. true) (tickets j) o))
ordered-then j w (what.Paused t) l m o = rw (tickets-then j w (what.Paused t)) (rw (append-nil (filter (λ u. true) (tickets j))) (in_order-filter (λ u. true) (tickets j) o))
ordered-then j w (what.Resumed t) l m o = rw (tickets-then j w (what.Resumed t)) (rw (append-nil (filter (λ u. true) (tickets j))) (in_order-filter (λ u. true) (tickets j) o))
ordered-then j w what.Wake l m o = rw (tickets-then j w what.Wake) (rw (append-nil (filter (λ u. true) (tickets j))) (in_order-filter (λ u. true) (tickets j) o))

ordered_from : (f j : List Event) → Laws f → IsInOrder (tickets f) → is_legal_after f j ≡ true → IsInOrder (tickets (f ++ j))
ordered_from f [] l o h = rw (append-nil f) o
ordered_from f (e ∷ j) l o h =
    let k = and_parts (may_follow f e.what) (is_legal_after (f ++ e ∷ []) j) h in
    rw (← append_assoc f (e ∷ []) j) (ordered_from (f ++ e ∷ []) j (laws-then f e.who e.what l k.0) (ordered-then f e.who e.what l k.0 o) k.1)

pub ordered : (j : List Event) → is_legal j ≡ true → IsInOrder (tickets j)
ordered j h = ordered_from [] j laws_none tt h

-- 3. What may follow.

none_is : (p : Addition → Bool) (o : Option Row) (xs : List Addition) → is_some o ≡ false → option_map (λ r. r.ticket) o ≡ option_map (λ a. a.ticket) (find p xs) → list_any p xs ≡ false
none_is p (Some r) xs h e = absurd (true≢false h)
none_is p None xs h e = go (find p xs) refl e where
  go : (o : Option Addition) → find p xs ≡ o → None ≡ option_map (λ a. a.ticket) o → list_any p xs ≡ false
  go None is k = not_found p xs ∙ ap (λ (x : Option Addition). not (is_none x)) is
  go (Some a) is k = cc

pub may_add : (j : List Event) (h : HandleId) (t : Ticket) (o : Option Row) → is_some o ≡ false → option_map (λ r. r.ticket) o ≡ ticket_of h j
    → nat_le most_handles (length (added j)) ≡ false → beyond j ≤ t.0 → may_follow j (what.Added h t) ≡ true
may_add j h t o none is full new =
    and_from _ _ (and_from _ _ (not_from_false _ (none_is (λ a. same_handle h a.handle) o (added j) none is)) (grind (arith, nat_tests))) (le-leb (beyond j) t.0 new)

pub room_none : (history : ℕ) (j : List Event) → HasRoomForDue history j → has_room history j 0 ≡ true
room_none history j k = let r = k.room in le-leb _ history (omega arith)

pub found_any : (p : Addition → Bool) (t : Ticket) (xs : List Addition) → Some t ≡ option_map (λ a. a.ticket) (find p xs) → list_any (λ a. p a && same_ticket t a.ticket) xs ≡ true
found_any p t [] h = cc
found_any p t (x ∷ xs) h = go (p x) h (found_any p t xs) where
  go : (b : Bool) → Some t ≡ option_map (λ a. a.ticket) (cond b (Some x) (find p xs)) → (Some t ≡ option_map (λ a. a.ticket) (find p xs) → list_any (λ a. p a && same_ticket t a.ticket) xs ≡ true)
      → ((b && same_ticket t x.ticket) || list_any (λ a. p a && same_ticket t a.ticket) xs) ≡ true
  go true k r = let e : t ≡ x.ticket = cc in let q : same_ticket t x.ticket ≡ true = rw e (same-refl x.ticket) in or_left (same_ticket t x.ticket) (list_any (λ a. p a && same_ticket t a.ticket) xs) q
  go false k r = r k

pub may_remove : (j : List Event) (h : HandleId) (o : Option Row) (r : Row) → o ≡ Some r → option_map (λ r. r.ticket) o ≡ ticket_of h j → may_follow j (what.Removed h r.ticket) ≡ true
may_remove j h o r is e = found_any (λ a. same_handle h a.handle) r.ticket (added j) (sym (ap (option_map (λ (x : Row). x.ticket)) is) ∙ e)

-- 4. Messages wait once each.

once_kept : (t : Ticket) (p : Ticket → Bool) (ts : List Ticket) (b : Bool) → has_ticket t ts ≡ false → IsOncePerTicket (filter p ts) → IsOncePerTicket (cond b (t ∷ filter p ts) (filter p ts))
once_kept t p ts true h o = (false_from_ne_true _ (λ k. false≢true (sym h ∙ (has-filter t p ts k).0)), o)
once_kept t p ts false h o = o

once-filter : (p : Ticket → Bool) (ts : List Ticket) → IsOncePerTicket ts → IsOncePerTicket (filter p ts)
once-filter p [] h = tt
once-filter p (t ∷ ts) h = once_kept t p ts (p t) h.0 (once-filter p ts h.1)

neither_has : (u t : Ticket) (ts : List Ticket) → has_ticket u ts ≡ false → same_ticket u t ≡ false → has_ticket u (ts ++ t ∷ []) ≡ false
neither_has u t ts h s = list_any-append (same_ticket u) ts (t ∷ []) ∙ ap (λ b. b || (same_ticket u t || false)) h ∙ ap (λ b. b || false) s

pub same-sym : (t u : Ticket) → same_ticket t u ≡ false → same_ticket u t ≡ false
same-sym t u h = ne_eqb u.0 t.0 (λ e. eqb-false t.0 u.0 h (sym e))

pub parts_false : (a b : Bool) → (a || b) ≡ false → (a ≡ false) × (b ≡ false)
parts_false false false h = (refl, refl)
parts_false false true h = absurd (false≢true (sym h))
parts_false true b h = absurd (false≢true (sym h))

once-push : (ts : List Ticket) (t : Ticket) → IsOncePerTicket ts → has_ticket t ts ≡ false → IsOncePerTicket (ts ++ t ∷ [])
once-push [] t o h = (refl, tt)
once-push (u ∷ ts) t o h =
    let k = parts_false (same_ticket t u) (has_ticket t ts) h in
    (neither_has u t ts o.0 (same-sym t u k.0), once-push ts t o.1 k.1)

abbrev pub wait_tickets : List Event → List Ticket
wait_tickets j = map (λ m. m.ticket) (waiting j)

waits_done : (j : List Event) (ms : List Message) → AllByRecursion (λ m. (phase_of m.ticket j ≡ phase.Done m.code) × (has_ticket m.ticket (tickets j) ≡ true)) ms
    → AllByRecursion (λ t. is_open (phase_of t j) ≡ false) (map (λ m. m.ticket) ms)
waits_done j [] a = tt
waits_done j (m ∷ ms) a = (ap is_open a.0.0, waits_done j ms a.1)

-- a running ticket has no message
pub runs_unread : (j : List Event) → Laws j → (t : Ticket) → has_ticket t (running j) ≡ true → has_ticket t (wait_tickets j) ≡ false
runs_unread j l t h = false_from_ne_true _ (λ k. false≢true (sym (at_ticket (λ u. is_open (phase_of u j) ≡ false) t (wait_tickets j) (waits_done j (waiting j) l.waits) k) ∙ (running-has j t h).1))

pub once-then : (j : List Event) (w : Who) (e : What) → Laws j → may_follow j e ≡ true → IsOncePerTicket (wait_tickets j) → IsOncePerTicket (wait_tickets (then j w e))
once-then j w e l m o =
    rw (waiting-then j w e)
    (rw (map-append (λ (x : Message). x.ticket) (filter (λ x. not (reads x.ticket e || removes x.ticket e)) (waiting j)) (option_to_list (message_of e)), filter_messages (λ t. not (reads t e || removes t e)) (waiting j))
    (go e m (once-filter (λ t. not (reads t e || removes t e)) (wait_tickets j) o)))
  where
    go : (e : What) → may_follow j e ≡ true → IsOncePerTicket (filter (λ t. not (reads t e || removes t e)) (wait_tickets j))
        → IsOncePerTicket (filter (λ t. not (reads t e || removes t e)) (wait_tickets j) ++ map (λ m. m.ticket) (option_to_list (message_of e)))
    go (what.Done t c n) m x = once-push _ t x (false_from_ne_true _ (λ k. false≢true (sym (runs_unread j l t m) ∙ (has-filter t (λ u. true) (wait_tickets j) k).0)))
    go (what.Added h t) m x = rw (append-nil (filter (λ u. true) (wait_tickets j))) x
    go (what.Removed h t) m x = rw (append-nil (filter (λ u. not (same_ticket u t)) (wait_tickets j))) x
    go (what.Read t) m x = rw (append-nil (filter (λ u. not (same_ticket u t || false)) (wait_tickets j))) x
    go (what.Paused t) m x = rw (append-nil (filter (λ u. true) (wait_tickets j))) x
    go (what.Resumed t) m x = rw (append-nil (filter (λ u. true) (wait_tickets j))) x
    go what.Wake m x = rw (append-nil (filter (λ u. true) (wait_tickets j))) x

once_from : (f j : List Event) → Laws f → IsOncePerTicket (wait_tickets f) → is_legal_after f j ≡ true → IsOncePerTicket (wait_tickets (f ++ j))
once_from f [] l o h = rw (append-nil f) o
once_from f (e ∷ j) l o h =
    let k = and_parts (may_follow f e.what) (is_legal_after (f ++ e ∷ []) j) h in
    rw (← append_assoc f (e ∷ []) j) (once_from (f ++ e ∷ []) j (laws-then f e.who e.what l k.0) (once-then f e.who e.what l k.0 o) k.1)

pub once : (j : List Event) → is_legal j ≡ true → IsOncePerTicket (wait_tickets j)
once j h = once_from [] j laws_none tt h

-- 5. No more messages wait than handles are added.

has_gone : (x t : Ticket) (ys : List Ticket) → has_ticket x ys ≡ true → same_ticket x t ≡ false → has_ticket x (filter (λ y. not (same_ticket t y)) ys) ≡ true
has_gone x t ys h s = has-stays x (λ y. not (same_ticket t y)) ys h (not_from_false _ (same-sym x t s))

shorter_one : (t y : Ticket) (ys : List Ticket) (b : Bool) → same_ticket t y ≡ b → (has_ticket t ys ≡ true → length (filter (λ z. not (same_ticket t z)) ys) + 1 ≤ length ys)
    → length (filter (λ z. not (same_ticket t z)) ys) ≤ length ys → (b || has_ticket t ys) ≡ true
    → length (cond (not b) (y ∷ filter (λ z. not (same_ticket t z)) ys) (filter (λ z. not (same_ticket t z)) ys)) + 1 ≤ length ys + 1
shorter_one t y ys true s r le h = omega arith
shorter_one t y ys false s r le h = let k = r h in omega arith

shorter_le : (t : Ticket) (ys : List Ticket) → length (filter (λ z. not (same_ticket t z)) ys) ≤ length ys
shorter_le t ys = omega (arith, length-filter (λ z. not (same_ticket t z)) ys, count_by-le-length (λ z. not (same_ticket t z)) ys)

shorter : (t : Ticket) (ys : List Ticket) → has_ticket t ys ≡ true → length (filter (λ z. not (same_ticket t z)) ys) + 1 ≤ length ys
shorter t [] h = absurd (false≢true h)
shorter t (y ∷ ys) h = let k = shorter_one t y ys (same_ticket t y) refl (shorter t ys) (shorter_le t ys) h in omega (arith, k)

each_off : (x : Ticket) (xs : List Ticket) → has_ticket x xs ≡ false → AllByRecursion (λ u. same_ticket x u ≡ false) xs
each_off x [] h = tt
each_off x (u ∷ xs) h = let k = parts_false (same_ticket x u) (has_ticket x xs) h in (k.0, each_off x xs k.1)

-- tickets that differ, each in a list, are no more than that list has
pub pigeons : (xs ys : List Ticket) → IsOncePerTicket xs → AllByRecursion (λ t. has_ticket t ys ≡ true) xs → length xs ≤ length ys
pigeons [] ys o h = omega arith
pigeons (x ∷ xs) ys o h =
    let rest = Each-both (λ u. same_ticket x u ≡ false) (λ u. has_ticket u ys ≡ true) (λ u. has_ticket u (filter (λ z. not (same_ticket x z)) ys) ≡ true)
    (λ u off i. has_gone u x ys i (same-sym x u off)) xs (each_off x xs o.0) h.1 in
    let k = pigeons xs (filter (λ z. not (same_ticket x z)) ys) o.1 rest in
    let l = shorter x ys h.0 in
    omega (arith, k, l)

pub waits_added : (j : List Event) (ms : List Message) → AllByRecursion (λ m. (phase_of m.ticket j ≡ phase.Done m.code) × (has_ticket m.ticket (tickets j) ≡ true)) ms
    → AllByRecursion (λ t. has_ticket t (tickets j) ≡ true) (map (λ m. m.ticket) ms)
waits_added j [] a = tt
waits_added j (m ∷ ms) a = (a.0.1, waits_added j ms a.1)

-- one more waiting ticket, and one more ending, has its space
pub waits_short : (j : List Event) (t : Ticket) → is_legal j ≡ true → has_ticket t (running j) ≡ true → length (wait_tickets j) < most_handles
waits_short j t l r =
    let x = laws j l in
    let k = pigeons (t ∷ wait_tickets j) (tickets j) (runs_unread j x t r, once j l) ((running-has j t r).0, waits_added j (waiting j) x.waits) in
    let f = few j l in
    omega (arith, k, length-map (added j) (λ a. a.ticket))

-- 6. A reading.

off_kept : (t : Ticket) (ms : List Message) → has_ticket t (map (λ m. m.ticket) ms) ≡ false → filter (λ m. not (same_ticket m.ticket t || false)) ms ≡ ms
off_kept t [] h = refl
off_kept t (m ∷ ms) h =
    let k = parts_false (same_ticket t m.ticket) (has_ticket t (map (λ m. m.ticket) ms)) h in
    rw (same-sym t m.ticket k.0) (ap (λ z. m ∷ z) (off_kept t ms k.1))

pub read_rest : (m : Message) (ms : List Message) → IsOncePerTicket (map (λ m. m.ticket) (m ∷ ms)) → filter (λ x. not (same_ticket x.ticket m.ticket || false)) (m ∷ ms) ++ [] ≡ ms
read_rest m ms o = append-nil _ ∙ rw (same-refl m.ticket) (off_kept m.ticket ms o.0)

pub none_added : (j : List Event) → is_legal j ≡ true → (t : Ticket) → None ≡ handle_of t j → has_ticket t (tickets j) ≡ false
none_added j l t e = has_added (added j) ∙ not_found (λ (a : Addition). same_ticket t a.ticket) (added j) ∙ go (find (λ a. same_ticket t a.ticket) (added j)) e where
  has_added : (xs : List Addition) → has_ticket t (map (λ a. a.ticket) xs) ≡ list_any (λ a. same_ticket t a.ticket) xs
  has_added [] = refl
  has_added (a ∷ xs) = ap (λ b. same_ticket t a.ticket || b) (has_added xs)

  go : (o : Option Addition) → None ≡ option_map (λ a. a.handle) o → not (is_none o) ≡ false
  go None k = refl
  go (Some a) k = cc
