-- First in, first out.
use Rattle.std.proofs.Common.{◌≡◌, ◌∙◌, sym, refl, ap, List, [], ◌∷◌, ◌++◌, append-nil, append_assoc, Bool, true, false, cond, map}
use Rattle.std.specs.Prelude.{not, ◌&&◌, ◌||◌, None}
use Rattle.std.specs.List.{filter, AllByRecursion}
use Rattle.std.specs.Option.{option_to_list}
use Rattle.std.proofs.lemmas.Bool.{and_parts, false≢true, true≢false, or_right, or_left}
use Rattle.std.proofs.lemmas.Grind.{flat_map-append}
use Rattle.std.proofs.lemmas.List.{map-append}
use Rattle.std.proofs.lemmas.List.Elements.{filter-append}
use Rattle.mx_types.specs.declared.names.HandleId.{HandleId}
use Rattle.mx_types.specs.declared.names.Ticket.{Ticket}
use Rattle.mx_types.specs.declared.event.Who.{Who}
use Rattle.mx_types.specs.declared.event.What.{What}
use Rattle.mx_types.specs.declared.event.What.TheVariants as what
use Rattle.mx_types.specs.declared.event.Event.{Event}
use Rattle.mx_history.specs.declared.row.Phase.TheVariants as phase
use Rattle.mx_history.specs.History.{Message, same_ticket, occurs, removes, reads, waiting, has_ticket, is_first, phase_of, may_follow, is_legal_after}
use Rattle.mx_history.specs.Rows.{is_read}
use Rattle.mx_history.specs.Laws.{then, done_of, read_of, done_tickets, read_tickets, is_removed_unread, IsOncePerTicket, FirstInFirstOut}
use Rattle.mx_history.proofs.Snoc.{occurs-snoc, or_false}
use Rattle.mx_history.proofs.Lists.{Each-map, Each-append, filter_idle, filter_true, filter_where, same-is, same-refl}
use Rattle.mx_history.proofs.Histories.{tickets, Laws, laws-then, laws_none, waiting-then, running-has, first_unread, filter_messages}
use Rattle.mx_history.proofs.Tickets.{once-then, read_rest, wait_tickets}
use Rattle.mx_history.proofs.LegalLaws.{unremoved}

each_any : {X : Type 0} (xs : List X) → AllByRecursion (λ x. Unit {0}) xs
each_any [] = tt
each_any (x ∷ xs) = (tt, each_any xs)

filter_equal : (p q : Ticket → Bool) → ((t : Ticket) → p t ≡ q t) → (xs : List Ticket) → filter p xs ≡ filter q xs
filter_equal p q h xs = filter_where (λ _. Unit {0}) p q (λ t _. h t) xs (each_any xs)

filter_twice : (p q : Ticket → Bool) (xs : List Ticket) → filter (λ t. p t && q t) xs ≡ filter q (filter p xs)
filter_twice p q [] = refl
filter_twice p q (x ∷ xs) = go (p x) (filter_twice p q xs) where
  go : (b : Bool) → filter (λ t. p t && q t) xs ≡ filter q (filter p xs)
      → cond (b && q x) (x ∷ filter (λ t. p t && q t) xs) (filter (λ t. p t && q t) xs) ≡ filter q (cond b (x ∷ filter p xs) (filter p xs))
  go true r = ap (λ z. cond (q x) (x ∷ z) z) r
  go false r = r

done-then : (j : List Event) (w : Who) (e : What) → done_tickets (then j w e) ≡ done_tickets j ++ option_to_list (done_of e)
done-then j w e = flat_map-append (λ (x : Event). option_to_list (done_of x.what)) j (record { who = w; what = e } ∷ []) ∙ ap (λ z. done_tickets j ++ z) (append-nil (option_to_list (done_of e)))

read-then : (j : List Event) (w : Who) (e : What) → read_tickets (then j w e) ≡ read_tickets j ++ option_to_list (read_of e)
read-then j w e = flat_map-append (λ (x : Event). option_to_list (read_of x.what)) j (record { who = w; what = e } ∷ []) ∙ ap (λ z. read_tickets j ++ z) (append-nil (option_to_list (read_of e)))

-- the tickets of readings were read
each_read : (j : List Event) → AllByRecursion (λ t. occurs (reads t) j ≡ true) (read_tickets j)
each_read [] = tt
each_read (e ∷ j) =
    Each-append (λ t. occurs (reads t) (e ∷ j) ≡ true) (option_to_list (read_of e.what)) (read_tickets j) (own e.what)
    (Each-map (λ t. occurs (reads t) j ≡ true) (λ t. occurs (reads t) (e ∷ j) ≡ true) (λ t h. or_right (reads t e.what) (occurs (reads t) j) h) (read_tickets j) (each_read j))
  where
    own : (x : What) → AllByRecursion (λ t. (reads t x || occurs (reads t) j) ≡ true) (option_to_list (read_of x))
    own (what.Read t) = (or_left (same_ticket t t) (occurs (reads t) j) (same-refl t), tt)
    own (what.Added _ _) = tt
    own (what.Removed _ _) = tt
    own (what.Done _ _ _) = tt
    own (what.Paused _) = tt
    own (what.Resumed _) = tt
    own what.Wake = tt

-- those of messages that wait were not
each_unread : (j : List Event) → Laws j → AllByRecursion (λ t. occurs (reads t) j ≡ false) (wait_tickets j)
each_unread j l = go (waiting j) l.waits where
  go : (ms : List Message) → AllByRecursion (λ m. (phase_of m.ticket j ≡ phase.Done m.code) × (has_ticket m.ticket (tickets j) ≡ true)) ms → AllByRecursion (λ t. occurs (reads t) j ≡ false) (map (λ m. m.ticket) ms)
  go [] a = tt
  go (m ∷ ms) a = (l.late m.ticket ∙ ap is_read a.0.0, go ms a.1)

-- an event that neither reads nor removes leaves what is kept
kept-quiet : (j : List Event) (w : Who) (e : What) → ((t : Ticket) → removes t e ≡ false) → ((t : Ticket) → reads t e ≡ false) → (t : Ticket)
    → not (is_removed_unread t (then j w e)) ≡ not (is_removed_unread t j)
kept-quiet j w e r s t =
    rw (occurs-snoc (removes t) j (record { who = w; what = e }), occurs-snoc (reads t) j (record { who = w; what = e }), r t, s t, or_false (occurs (removes t) j), or_false (occurs (reads t) j)) refl

abbrev InOrder : List Event → Type 0
InOrder j = read_tickets j ++ wait_tickets j ≡ filter (λ t. not (is_removed_unread t j)) (done_tickets j)

-- an event that is no end, no reading and no removal
in_order-quiet : (j : List Event) (w : Who) (e : What) → ((t : Ticket) → removes t e ≡ false) → ((t : Ticket) → reads t e ≡ false) → done_of e ≡ None → read_of e ≡ None
    → waiting (then j w e) ≡ waiting j → InOrder j → InOrder (then j w e)
in_order-quiet j w e r s d n same o =
    let reads_same : read_tickets (then j w e) ≡ read_tickets j = read-then j w e ∙ ap (λ o. read_tickets j ++ option_to_list o) n ∙ append-nil (read_tickets j) in
    let dones_same : done_tickets (then j w e) ≡ done_tickets j = done-then j w e ∙ ap (λ o. done_tickets j ++ option_to_list o) d ∙ append-nil (done_tickets j) in
    ap (λ z. z ++ wait_tickets (then j w e)) reads_same ∙ ap (λ ms. read_tickets j ++ map (λ (m : Message). m.ticket) ms) same ∙ o
    ∙ filter_equal _ _ (λ t. sym (kept-quiet j w e r s t)) (done_tickets j) ∙ ap (filter (λ t. not (is_removed_unread t (then j w e)))) (sym dones_same)

not_removed : (a b : Bool) → a ≡ false → not (a && b) ≡ true
not_removed false b h = refl
not_removed true b h = absurd (true≢false h)

-- what is kept after a reading
kept-read : (j : List Event) (w : Who) (t u : Ticket) → occurs (removes t) j ≡ false → not (is_removed_unread u (then j w (what.Read t))) ≡ not (is_removed_unread u j)
kept-read j w t u gone =
    rw (occurs-snoc (removes u) j (record { who = w; what = what.Read t }), occurs-snoc (reads u) j (record { who = w; what = what.Read t }), or_false (occurs (removes u) j))
    (go (same_ticket u t) refl)
  where
    go : (b : Bool) → same_ticket u t ≡ b → not (occurs (removes u) j && not (occurs (reads u) j || b)) ≡ not (occurs (removes u) j && not (occurs (reads u) j))
    go false is = ap (λ z. not (occurs (removes u) j && not z)) (or_false (occurs (reads u) j))
    go true is =
        let off : occurs (removes u) j ≡ false = ap (λ v. occurs (removes v) j) (same-is u t is) ∙ gone in
        not_removed _ _ off ∙ sym (not_removed _ _ off)

-- what is kept after a removal
removal_test : (a r s : Bool) → not ((a || s) && not r) ≡ (not (a && not r) && not (s && not r))
removal_test true true true = refl
removal_test true true false = refl
removal_test true false s = refl
removal_test false true true = refl
removal_test false true false = refl
removal_test false false true = refl
removal_test false false false = refl

kept-removed : (j : List Event) (w : Who) (h : HandleId) (t u : Ticket)
    → not (is_removed_unread u (then j w (what.Removed h t))) ≡ (not (is_removed_unread u j) && not (same_ticket u t && not (occurs (reads u) j)))
kept-removed j w h t u =
    rw (occurs-snoc (removes u) j (record { who = w; what = what.Removed h t }), occurs-snoc (reads u) j (record { who = w; what = what.Removed h t }), or_false (occurs (reads u) j))
    (removal_test (occurs (removes u) j) (occurs (reads u) j) (same_ticket u t))

read_stays : (s r : Bool) → r ≡ true → not (s && not r) ≡ true
read_stays true true h = refl
read_stays false true h = refl
read_stays s false h = absurd (false≢true h)

unread_goes : (s r : Bool) → r ≡ false → not (s && not r) ≡ not s
unread_goes true false h = refl
unread_goes false false h = refl
unread_goes s true h = absurd (true≢false h)

pub in_order-then : (j : List Event) (w : Who) (e : What) → Laws j → IsOncePerTicket (wait_tickets j) → may_follow j e ≡ true → InOrder j → InOrder (then j w e)
in_order-then j w (what.Done t c n) l once m o =
    let e = what.Done t c n in
    let kept : not (is_removed_unread t (then j w e)) ≡ true =
    kept-quiet j w e (λ _. refl) (λ _. refl) t ∙ not_removed _ _ (unremoved j l t (running-has j t m).0) in
    let waits : wait_tickets (then j w e) ≡ wait_tickets j ++ t ∷ [] =
    ap (map (λ (x : Message). x.ticket)) (waiting-then j w e ∙ ap (λ z. z ++ record { ticket = t; code = c; size = n } ∷ []) (filter_true (waiting j))) ∙ map-append (λ (x : Message). x.ticket) (waiting j) (record { ticket = t; code = c; size = n } ∷ []) in
    ap (λ z. z ++ wait_tickets (then j w e)) (read-then j w e ∙ append-nil (read_tickets j)) ∙ ap (λ z. read_tickets j ++ z) waits ∙ sym (append_assoc (read_tickets j) (wait_tickets j) (t ∷ []))
    ∙ ap (λ z. z ++ t ∷ []) (o ∙ filter_equal _ _ (λ u. sym (kept-quiet j w e (λ _. refl) (λ _. refl) u)) (done_tickets j))
    ∙ ap (λ b. filter (λ u. not (is_removed_unread u (then j w e))) (done_tickets j) ++ cond b (t ∷ []) []) (sym kept)
    ∙ sym (filter-append (λ u. not (is_removed_unread u (then j w e))) (done_tickets j) (t ∷ []))
    ∙ ap (filter (λ u. not (is_removed_unread u (then j w e)))) (sym (done-then j w e))
in_order-then j w (what.Read t) l once m o =
    let e = what.Read t in
    let gone = unremoved j l t (first_unread j t (waiting j) l.waits m).1 in
    ap (λ z. z ++ wait_tickets (then j w e)) (read-then j w e) ∙ append_assoc (read_tickets j) (t ∷ []) (wait_tickets (then j w e))
    ∙ ap (λ z. read_tickets j ++ z) (front (waiting j) refl m) ∙ o
    ∙ filter_equal _ _ (λ u. sym (kept-read j w t u gone)) (done_tickets j)
    ∙ ap (filter (λ u. not (is_removed_unread u (then j w e)))) (sym (done-then j w e ∙ append-nil (done_tickets j)))
  where
    front : (ms : List Message) → waiting j ≡ ms → is_first t ms ≡ true → t ∷ wait_tickets (then j w (what.Read t)) ≡ map (λ x. x.ticket) (waiting j)
    front [] is f = absurd (false≢true f)
    front (x ∷ ms) is f =
        let same : t ≡ x.ticket = same-is t x.ticket f in
        let ws : waiting (then j w (what.Read t)) ≡ ms =
        waiting-then j w (what.Read t) ∙ ap (λ z. filter (λ y. not (same_ticket y.ticket t || false)) z ++ []) is
        ∙ ap (λ v. filter (λ y. not (same_ticket y.ticket v || false)) (x ∷ ms) ++ []) same ∙ read_rest x ms (rw is at once) in
        ap (λ z. t ∷ map (λ (y : Message). y.ticket) z) ws ∙ ap (λ v. v ∷ map (λ (y : Message). y.ticket) ms) same ∙ ap (map (λ (y : Message). y.ticket)) (sym is)
in_order-then j w (what.Removed h t) l once m o =
    let e = what.Removed h t in
    let q : Ticket → Bool = λ u. not (same_ticket u t && not (occurs (reads u) j)) in
    let waits : wait_tickets (then j w e) ≡ filter (λ u. not (same_ticket u t)) (wait_tickets j) =
    ap (map (λ (x : Message). x.ticket)) (waiting-then j w e ∙ append-nil (filter (λ (x : Message). not (same_ticket x.ticket t)) (waiting j))) ∙ filter_messages (λ u. not (same_ticket u t)) (waiting j) in
    let stay : filter q (read_tickets j) ≡ read_tickets j =
    filter_where (λ u. occurs (reads u) j ≡ true) q (λ _. true) (λ u r. read_stays (same_ticket u t) (occurs (reads u) j) r) (read_tickets j) (each_read j) ∙ filter_true (read_tickets j) in
    let go : filter q (wait_tickets j) ≡ filter (λ u. not (same_ticket u t)) (wait_tickets j) =
    filter_where (λ u. occurs (reads u) j ≡ false) q (λ u. not (same_ticket u t)) (λ u r. unread_goes (same_ticket u t) (occurs (reads u) j) r) (wait_tickets j) (each_unread j l) in
    ap (λ z. z ++ wait_tickets (then j w e)) (read-then j w e ∙ append-nil (read_tickets j)) ∙ ap (λ z. read_tickets j ++ z) (waits ∙ sym go)
    ∙ ap (λ z. z ++ filter q (wait_tickets j)) (sym stay) ∙ sym (filter-append q (read_tickets j) (wait_tickets j)) ∙ ap (filter q) o
    ∙ sym (filter_twice (λ u. not (is_removed_unread u j)) q (done_tickets j))
    ∙ filter_equal _ _ (λ u. sym (kept-removed j w h t u)) (done_tickets j)
    ∙ ap (filter (λ u. not (is_removed_unread u (then j w e)))) (sym (done-then j w e ∙ append-nil (done_tickets j)))
in_order-then j w (what.Added h t) l once m o = in_order-quiet j w (what.Added h t) (λ _. refl) (λ _. refl) refl refl (waiting-then j w (what.Added h t) ∙ filter_idle (waiting j)) o
in_order-then j w (what.Paused t) l once m o = in_order-quiet j w (what.Paused t) (λ _. refl) (λ _. refl) refl refl (waiting-then j w (what.Paused t) ∙ filter_idle (waiting j)) o
in_order-then j w (what.Resumed t) l once m o = in_order-quiet j w (what.Resumed t) (λ _. refl) (λ _. refl) refl refl (waiting-then j w (what.Resumed t) ∙ filter_idle (waiting j)) o
in_order-then j w what.Wake l once m o = in_order-quiet j w what.Wake (λ _. refl) (λ _. refl) refl refl (waiting-then j w what.Wake ∙ filter_idle (waiting j)) o

in_order_from : (f j : List Event) → Laws f → IsOncePerTicket (wait_tickets f) → InOrder f → is_legal_after f j ≡ true → InOrder (f ++ j)
in_order_from f [] l once o h = rw (append-nil f) o
in_order_from f (e ∷ j) l once o h =
    let k = and_parts (may_follow f e.what) (is_legal_after (f ++ e ∷ []) j) h in
    rw (← append_assoc f (e ∷ []) j)
    (in_order_from (f ++ e ∷ []) j (laws-then f e.who e.what l k.0) (once-then f e.who e.what l k.0 once) (in_order-then f e.who e.what l once k.0 o) k.1)

pub first_in_first_out : FirstInFirstOut
first_in_first_out j h = in_order_from [] j laws_none tt refl h
