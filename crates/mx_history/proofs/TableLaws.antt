-- What a book's table says of its journal, and what an event keeps.
use Rattle.std.proofs.Common.{◌≡◌, ℕ, ◌+◌, ◌<◌, ◌≤◌, ◌∙◌, sym, refl, ap, List, [], ◌∷◌, ◌++◌, append-nil, append_assoc, length, Bool, true, false, cond, map, arith, zero-add, length-append, inl, inr}
use Rattle.std.specs.Prelude.{max, nat_le, zero, suc, not, ◌&&◌, ◌||◌, Option, Some, None, nat_lt, IfSome, IfNone}
use Rattle.std.specs.List.{filter, list_any, find, AllByRecursion, count_by, sum_by}
use Rattle.std.specs.Option.{is_none, option_map, option_to_list}
use Rattle.std.proofs.lemmas.Bool.{ltb-true, ltb-false, and_parts, and_from, false_from_ne_true, false≢true, leb-true, or_right, or_cases, or_left}
use Rattle.std.proofs.lemmas.List.{map-append}
use Rattle.std.proofs.lemmas.List.Sums.{sum_by-cons, sum_by_push, length-filter, count_by-le-length}
use Rattle.mx_types.specs.Limits.{most_handles}
use Rattle.mx_types.specs.declared.code.Code.{Code}
use Rattle.mx_types.specs.declared.names.HandleId.{HandleId}
use Rattle.mx_types.specs.declared.names.Ticket.{Ticket}
use Rattle.mx_types.specs.declared.event.Who.{Who}
use Rattle.mx_types.specs.declared.event.What.{What}
use Rattle.mx_types.specs.declared.event.What.TheVariants as what
use Rattle.mx_types.specs.declared.event.Event.{Event}
use Rattle.mx_history.specs.History.{Addition, Message, same_ticket, same_handle, occurs, wakes, past, message_of, removes, reads, ends, added, waiting, running, paused, beyond, has_ticket, has_handle, last_is_pause, end_of, phase_by, phase_of, due, may_follow, is_legal, is_legal_after, has_room, HasRoomForDue, is_maker, same_maker, made_by, needs}
use Rattle.mx_history.specs.declared.row.Row.{Row}
use Rattle.mx_history.specs.declared.row.Phase.{Phase}
use Rattle.mx_history.specs.declared.row.Phase.TheVariants as phase
use Rattle.mx_history.specs.Answers.{ticket_of, handle_of, is_ready}
use Rattle.mx_history.specs.Rows.{phase_after, ended_phase, read_phase, is_open, is_paused, turned, slots_in, rows_after, waits_after, table_from, table_of, places_of, places}
use Rattle.mx_history.specs.Slots.{lowest_free}
use Rattle.mx_history.specs.Table.{TableView, IsTableOf, IsRow, count_of}
use Rattle.mx_history.proofs.Snoc.{legal-snoc}
use Rattle.mx_history.proofs.Lists.{Each-map, filter_idle, filter_true, has-filter, same-refl, same-is}
use Rattle.mx_history.proofs.Histories.{tickets, Laws, laws, laws_none, laws-then, added-then, beyond-then, ends-phase, has_addition, running-has, first_unread, is_done, waiting-then, filter_messages}
use Rattle.mx_history.specs.Laws.{then}
use Rattle.mx_history.proofs.Tables.{Tabled, tabled-then, table-then, tickets-rows, ticket_of-rows, handle_of-rows, due-rows, length-rows, found, not_found, has-kept, runs-phase, both, sum-agrees, not_not}

-- 1. The table of a legal journal.

tabled_from : (f j : List Event) (rows : List Row) → Laws f → Tabled f rows → is_legal_after f j ≡ true → Tabled (f ++ j) (table_from rows j)
tabled_from f [] rows l t h = rw (append-nil f) t
tabled_from f (e ∷ j) rows l t h =
    let k = and_parts (may_follow f e.what) (is_legal_after (f ++ e ∷ []) j) h in
    rw (← append_assoc f (e ∷ []) j)
    (tabled_from (f ++ e ∷ []) j (rows_after rows e.what) (laws-then f e.who e.what l k.0) (tabled-then f e.who e.what rows l k.0 t) k.1)

pub tabled : (j : List Event) → is_legal j ≡ true → Tabled j (table_of j)
tabled j h = tabled_from [] j [] laws_none (record { adds = refl; phases = tt }) h

-- at most 256 are added
few_then : (f : List Event) (w : Who) (e : What) → length (added f) ≤ most_handles → may_follow f e ≡ true → length (added (then f w e)) ≤ most_handles
few_then f w (what.Added h t) few m =
    let k = and_parts (not (has_handle h (added f))) (nat_lt (length (added f)) most_handles) (and_parts (not (has_handle h (added f)) && nat_lt (length (added f)) most_handles) (nat_le (beyond f) t.0) m).0 in
    let lt = ltb-true (length (added f)) most_handles k.1 in
    rw (added-then f w (what.Added h t), filter_true (added f)) (omega (arith, length-append (added f) (record { handle = h; ticket = t } ∷ [])))
few_then f w (what.Removed h t) few m =
    rw (added-then f w (what.Removed h t), append-nil (filter (λ a. not (same_ticket a.ticket t)) (added f)))
    (omega (arith, length-filter (λ (a : Addition). not (same_ticket a.ticket t)) (added f), count_by-le-length (λ (a : Addition). not (same_ticket a.ticket t)) (added f)))
few_then f w (what.Done t c n) few m = rw (added-then f w (what.Done t c n), filter_idle (added f)) few
few_then f w (what.Read t) few m = rw (added-then f w (what.Read t), filter_idle (added f)) few
few_then f w (what.Paused t) few m = rw (added-then f w (what.Paused t), filter_idle (added f)) few
few_then f w (what.Resumed t) few m = rw (added-then f w (what.Resumed t), filter_idle (added f)) few
few_then f w what.Wake few m = rw (added-then f w what.Wake, filter_idle (added f)) few

few_from : (f j : List Event) → length (added f) ≤ most_handles → is_legal_after f j ≡ true → length (added (f ++ j)) ≤ most_handles
few_from f [] few h = rw (append-nil f) few
few_from f (e ∷ j) few h =
    let k = and_parts (may_follow f e.what) (is_legal_after (f ++ e ∷ []) j) h in
    rw (← append_assoc f (e ∷ []) j) (few_from (f ++ e ∷ []) j (few_then f e.who e.what few k.0) k.1)

pub few : (j : List Event) → is_legal j ≡ true → length (added j) ≤ most_handles
few j h = few_from [] j (omega arith) h

pub few_rows : (j : List Event) → is_legal j ≡ true → length (table_of j) ≤ most_handles
few_rows j h = rw (← length-rows j (table_of j) (tabled j h)) (few j h)

-- 2. A row.

held_by : (o : Option (Code × Bool)) (h : Bool) → is_open (phase_by o h) ≡ true → h ≡ is_paused (phase_by o h)
held_by None true k = refl
held_by None false k = refl
held_by (Some (c, true)) h k = absurd (false≢true k)
held_by (Some (c, false)) h k = absurd (false≢true k)

shut : (p : Phase) → is_open p ≡ false → is_paused p ≡ false
shut phase.Running h = refl
shut phase.Paused h = absurd (false≢true (sym h))
shut (phase.Done c) h = refl
shut (phase.Read c) h = refl

pub held-phase : (j : List Event) (t : Ticket) → has_ticket t (tickets j) ≡ true → has_ticket t (paused j) ≡ is_paused (phase_of t j)
held-phase j t h = go (is_open (phase_of t j)) refl where
  go : (b : Bool) → is_open (phase_of t j) ≡ b → has_ticket t (paused j) ≡ is_paused (phase_of t j)
  go true is = has-kept t (λ u. last_is_pause u j) (running j) (runs-phase j t h ∙ is) ∙ held_by (end_of t j) (last_is_pause t j) is
  go false is =
      false_from_ne_true _ (λ k. false≢true (sym (runs-phase j t h ∙ is) ∙ (has-filter t (λ u. last_is_pause u j) (running j) k).0)) ∙ sym (shut _ is)

each_in : (all rows : List Row) → ((t : Ticket) → has_ticket t (map (λ r. r.ticket) rows) ≡ true → has_ticket t (map (λ r. r.ticket) all) ≡ true)
    → AllByRecursion (λ r. has_ticket r.ticket (map (λ r. r.ticket) all) ≡ true) rows
each_in all [] h = tt
each_in all (r ∷ rows) h =
    (h r.ticket (ap (λ b. b || has_ticket r.ticket (map (λ r. r.ticket) rows)) (same-refl r.ticket)), each_in all rows (λ t k. h t (or_right (same_ticket t r.ticket) _ k)))

pub each_row : (j : List Event) → is_legal j ≡ true → AllByRecursion (IsRow j) (table_of j)
each_row j h =
    let t = tabled j h in
    let rows = table_of j in
    Each-map (λ r. (r.phase ≡ phase_of r.ticket j) × (has_ticket r.ticket (map (λ r. r.ticket) rows) ≡ true)) (IsRow j)
    (λ r x. let i : has_ticket r.ticket (tickets j) ≡ true = rw (tickets-rows j rows t) x.1 in record {
      phase = x.0;
      runs = runs-phase j r.ticket i ∙ ap is_open (sym x.0);
      held = held-phase j r.ticket i ∙ ap is_paused (sym x.0);
    })
    rows (both _ _ rows t.phases (each_in rows rows (λ _ k. k)))

if_found : {X : Type 0} (P : X → Type 0) (p : X → Bool) (xs : List X) → AllByRecursion P xs → (o : Option X) → o ≡ find p xs → IfSome o (λ x. P x × (p x ≡ true))
if_found P p xs a None h = tt
if_found P p xs a (Some x) h = found P p xs a x (sym h)

pub row_found : (j : List Event) → is_legal j ≡ true → (p : Row → Bool) (o : Option Row) → o ≡ find p (table_of j) → IfSome o (λ r. IsRow j r × (p r ≡ true))
row_found j h p o e = if_found (IsRow j) p (table_of j) (each_row j h) o e

pub handle_found : (j : List Event) → is_legal j ≡ true → (h : HandleId) (o : Option Row) → o ≡ find (λ r. same_handle h r.handle) (table_of j) → option_map (λ r. r.ticket) o ≡ ticket_of h j
handle_found j l h o e = ap (option_map (λ (r : Row). r.ticket)) e ∙ sym (ticket_of-rows j (table_of j) (tabled j l) h)

pub ticket_found : (j : List Event) → is_legal j ≡ true → (t : Ticket) (o : Option Row) → o ≡ find (λ r. same_ticket t r.ticket) (table_of j) → option_map (λ r. r.handle) o ≡ handle_of t j
ticket_found j l t o e = ap (option_map (λ (r : Row). r.handle)) e ∙ sym (handle_of-rows j (table_of j) (tabled j l) t)

none_has : (t : Ticket) (rows : List Row) → find (λ r. same_ticket t r.ticket) rows ≡ None → has_ticket t (map (λ r. r.ticket) rows) ≡ false
none_has t rows h = has_mapped t rows ∙ not_found (λ (r : Row). same_ticket t r.ticket) rows ∙ ap (λ (o : Option Row). not (is_none o)) h where
  has_mapped : (t : Ticket) (rows : List Row) → has_ticket t (map (λ r. r.ticket) rows) ≡ list_any (λ r. same_ticket t r.ticket) rows
  has_mapped t [] = refl
  has_mapped t (r ∷ rows) = ap (λ b. same_ticket t r.ticket || b) (has_mapped t rows)

pub none_runs : (j : List Event) → is_legal j ≡ true → (t : Ticket) → find (λ r. same_ticket t r.ticket) (table_of j) ≡ None → has_ticket t (running j) ≡ false
none_runs j l t h =
    false_from_ne_true _ (λ k. false≢true (sym (none_has t (table_of j) h) ∙ (rw (tickets-rows j (table_of j) (tabled j l)) at (running-has j t k).0)))

-- 3. What an event needs.

sum_le : (f g : Row → ℕ) → ((r : Row) → f r ≤ g r) → (rows : List Row) → sum_by f rows ≤ sum_by g rows
sum_le f g le [] = omega arith
sum_le f g le (r ∷ rows) = omega (arith, sum_by-cons f r rows, sum_by-cons g r rows, le r, sum_le f g le rows)

-- sums over the rows: g is nowhere below f, and above it at a row that passes q
sum_falls : (f g : Row → ℕ) (q : Row → Bool) → ((r : Row) → f r ≤ g r) → ((r : Row) → q r ≡ true → f r + 1 ≤ g r)
    → (rows : List Row) → list_any q rows ≡ true → sum_by f rows + 1 ≤ sum_by g rows
sum_falls f g q le lt [] h = absurd (false≢true h)
sum_falls f g q le lt (r ∷ rows) h =
    let cf = sum_by-cons f r rows in
    let cg = sum_by-cons g r rows in
    elim (or_cases _ _ h) [
      | inl b ↦ (let k = lt r b in let m = sum_le f g le rows in omega (arith, cf, cg, k, m))
      | inr b ↦ (let k = le r in let m = sum_falls f g q le lt rows b in omega (arith, cf, cg, k, m))
    ]

sum_turned : (f : Row → Row) (n : Row → ℕ) (rows : List Row) → sum_by n (map f rows) ≡ sum_by (λ r. n (f r)) rows
sum_turned f n [] = refl
sum_turned f n (r ∷ rows) = sum_by-cons n (f r) (map f rows) ∙ ap (λ k. n (f r) + k) (sum_turned f n rows) ∙ sym (sum_by-cons (λ x. n (f x)) r rows)

sum_filter : (p : Row → Bool) (n : Row → ℕ) (rows : List Row) → sum_by n (filter p rows) ≡ sum_by (λ r. cond (p r) (n r) 0) rows
sum_filter p n [] = refl
sum_filter p n (r ∷ rows) = go (p r) ∙ ap (λ k. cond (p r) (n r) 0 + k) (sum_filter p n rows) ∙ sym (sum_by-cons (λ x. cond (p x) (n x) 0) r rows) where
  go : (b : Bool) → sum_by n (cond b (r ∷ filter p rows) (filter p rows)) ≡ cond b (n r) 0 + sum_by n (filter p rows)
  go true = sum_by-cons n r (filter p rows)
  go false = sym (zero-add _)

-- a row of a ticket whose phase passes
any_row : (j : List Event) (t : Ticket) (test : Phase → Bool) (rows : List Row) → AllByRecursion (λ r. r.phase ≡ phase_of r.ticket j) rows
    → has_ticket t (map (λ r. r.ticket) rows) ≡ true → test (phase_of t j) ≡ true → list_any (λ r. same_ticket t r.ticket && test r.phase) rows ≡ true
any_row j t test [] a h k = h
any_row j t test (r ∷ rows) a h k =
    elim (or_cases _ _ h) [
      | inl b ↦ or_left _ _ (and_from _ _ b (ap test a.0 ∙ ap (λ u. test (phase_of u j)) (sym (same-is t r.ticket b)) ∙ k))
      | inr b ↦ or_right _ _ (any_row j t test rows a.1 b k)
    ]

row_of : (j : List Event) (t : Ticket) (test : Phase → Bool) → is_legal j ≡ true → has_ticket t (tickets j) ≡ true → test (phase_of t j) ≡ true
    → list_any (λ r. same_ticket t r.ticket && test r.phase) (table_of j) ≡ true
row_of j t test l h k =
    let tab = tabled j l in any_row j t test (table_of j) tab.phases (rw (← tickets-rows j (table_of j) tab) h) k

same-flip : (t u : Ticket) → same_ticket t u ≡ true → same_ticket u t ≡ true
same-flip t u h = rw (same-is t u h) (same-refl u)

gone_le : (b : Bool) (n : ℕ) → cond (not b) n 0 ≤ n
gone_le true n = omega arith
gone_le false n = omega arith

some_place : (p : Phase) → 0 + 1 ≤ places_of p
some_place phase.Running = omega arith
some_place phase.Paused = omega arith
some_place (phase.Done c) = omega arith
some_place (phase.Read c) = omega arith

ended_le : (b : Bool) (new p : Phase) → places_of new ≤ 3 → places_of (cond b (ended_phase new p) p) ≤ places_of p
ended_le true new phase.Running h = h
ended_le true new phase.Paused h = h
ended_le true new (phase.Done c) h = omega arith
ended_le true new (phase.Read c) h = omega arith
ended_le false new p h = omega arith

done_lt : (c : Code) (p : Phase) → is_open p ≡ true → places_of (ended_phase (phase.Done c) p) + 1 ≤ places_of p
done_lt c phase.Running h = omega arith
done_lt c phase.Paused h = omega arith
done_lt c (phase.Done d) h = absurd (false≢true h)
done_lt c (phase.Read d) h = absurd (false≢true h)

read_le : (b : Bool) (p : Phase) → places_of (cond b (read_phase p) p) ≤ places_of p
read_le true phase.Running = omega arith
read_le true phase.Paused = omega arith
read_le true (phase.Done c) = omega arith
read_le true (phase.Read c) = omega arith
read_le false p = omega arith

read_lt : (p : Phase) → is_done p ≡ true → places_of (read_phase p) + 1 ≤ places_of p
read_lt phase.Running h = absurd (false≢true h)
read_lt phase.Paused h = absurd (false≢true h)
read_lt (phase.Done c) h = omega arith
read_lt (phase.Read c) h = absurd (false≢true h)

turns_le : (e : What) (rows : List Row) → ((r : Row) → places_of (phase_after r.ticket e r.phase) ≤ places_of r.phase) → places (map (turned e) rows) ≤ places rows
turns_le e rows h = rw (sum_turned (turned e) (λ r. places_of r.phase) rows) (sum_le (λ r. places_of (phase_after r.ticket e r.phase)) (λ r. places_of r.phase) h rows)

pub places-then : (j : List Event) (w : Who) (e : What) → is_legal j ≡ true → may_follow j e ≡ true
    → places (rows_after (table_of j) e) + 1 ≤ places (table_of j) + needs e
places-then j w (what.Added h t) l m =
    omega (arith, sum_by_push (λ (r : Row). places_of r.phase) (table_of j) (record { handle = h; ticket = t; slot = lowest_free (slots_in (table_of j)); phase = phase.Running }))
places-then j w (what.Removed h t) l m =
    let k : places (filter (λ r. not (same_ticket r.ticket t)) (table_of j)) + 1 ≤ places (table_of j) =
    rw (sum_filter (λ r. not (same_ticket r.ticket t)) (λ r. places_of r.phase) (table_of j))
    (sum_falls (λ r. cond (not (same_ticket r.ticket t)) (places_of r.phase) 0) (λ r. places_of r.phase) (λ r. same_ticket t r.ticket && true)
    (λ r. gone_le (same_ticket r.ticket t) (places_of r.phase))
    (λ r q. rw (same-flip t r.ticket (and_parts _ _ q).0) (some_place r.phase))
    (table_of j) (row_of j t (λ _. true) l (has_addition t h (added j) m) refl)) in
    omega arith
places-then j w (what.Done t c n) l m =
    let e = what.Done t c n in
    let r = running-has j t m in
    let k : places (map (turned e) (table_of j)) + 1 ≤ places (table_of j) =
    rw (sum_turned (turned e) (λ r. places_of r.phase) (table_of j))
    (sum_falls (λ r. places_of (phase_after r.ticket e r.phase)) (λ r. places_of r.phase) (λ r. same_ticket t r.ticket && is_open r.phase)
    (λ r. ended_le (same_ticket r.ticket t) (phase.Done c) r.phase (omega arith))
    (λ r q. let x = and_parts _ _ q in rw (same-flip t r.ticket x.0) (done_lt c r.phase x.1))
    (table_of j) (row_of j t is_open l r.0 r.1)) in
    omega arith
places-then j w (what.Read t) l m =
    let e = what.Read t in
    let f = first_unread j t (waiting j) (laws j l).waits m in
    let k : places (map (turned e) (table_of j)) + 1 ≤ places (table_of j) =
    rw (sum_turned (turned e) (λ r. places_of r.phase) (table_of j))
    (sum_falls (λ r. places_of (phase_after r.ticket e r.phase)) (λ r. places_of r.phase) (λ r. same_ticket t r.ticket && is_done r.phase)
    (λ r. read_le (same_ticket r.ticket t) r.phase)
    (λ r q. let x = and_parts _ _ q in rw (same-flip t r.ticket x.0) (read_lt r.phase x.1))
    (table_of j) (row_of j t is_done l f.1 f.0)) in
    omega arith
places-then j w (what.Paused t) l m =
    let k = turns_le (what.Paused t) (table_of j) (λ r. ended_le (same_ticket r.ticket t) phase.Paused r.phase (omega arith)) in omega arith
places-then j w (what.Resumed t) l m =
    let k = turns_le (what.Resumed t) (table_of j) (λ r. ended_le (same_ticket r.ticket t) phase.Running r.phase (omega arith)) in omega arith
places-then j w what.Wake l m =
    let k = turns_le what.Wake (table_of j) (λ r. omega arith) in omega arith

pub legal-then : (j : List Event) (w : Who) (e : What) → is_legal j ≡ true → may_follow j e ≡ true → is_legal (then j w e) ≡ true
legal-then j w e l m = legal-snoc j (record { who = w; what = e }) ∙ and_from _ _ l m

pub due-table : (j : List Event) → is_legal j ≡ true → due j ≡ places (table_of j)
due-table j l = due-rows j (table_of j) (laws j l) (tabled j l)

pub kept-then : (history : ℕ) (j : List Event) (w : Who) (e : What) → HasRoomForDue history j → may_follow j e ≡ true → has_room history j (needs e) ≡ true
    → HasRoomForDue history (then j w e)
kept-then history j w e k m r =
    let l = legal-then j w e k.legal m in
    let room = leb-true _ history r in
    let falls = places-then j w e k.legal m in
    record {
      legal = l;
      room = omega (arith, length-append j (record { who = w; what = e } ∷ []), due-table (then j w e) l, due-table j k.legal, ap places (table-then j w e), falls, room);
      limit = k.limit;
    }

-- 4. What each answer of a book needs, over plain values.

pub row_only : (j : List Event) → is_legal j ≡ true → (p : Row → Bool) (o : Option Row) → o ≡ find p (table_of j) → IfSome o (IsRow j)
row_only j l p None e = tt
row_only j l p (Some r) e = (row_found j l p (Some r) e).0

pub same_only : (t : Ticket) (rows : List Row) (o : Option Row) → o ≡ find (λ r. same_ticket t r.ticket) rows → IfSome o (λ r. r.ticket ≡ t)
same_only t rows None e = tt
same_only t rows (Some r) e = sym (same-is t r.ticket (found (λ _. Unit {0}) (λ r. same_ticket t r.ticket) rows (each_unit rows) r (sym e)).1) where
  each_unit : (xs : List Row) → AllByRecursion (λ _. Unit {0}) xs
  each_unit [] = tt
  each_unit (x ∷ xs) = (tt, each_unit xs)

pub none_only : (j : List Event) → is_legal j ≡ true → (t : Ticket) (o : Option Row) → o ≡ find (λ r. same_ticket t r.ticket) (table_of j) → IfNone o (has_ticket t (running j) ≡ false)
none_only j l t None e = none_runs j l t (sym e)
none_only j l t (Some r) e = tt

length-filter_map : (p : Ticket → Bool) (rows : List Row) → length (filter p (map (λ r. r.ticket) rows)) ≡ count_by (λ r. p r.ticket) rows
length-filter_map p rows = length-filter p (map (λ r. r.ticket) rows) ∙ sum_mapped (λ (r : Row). r.ticket) (λ t. cond (p t) 1 0) rows where
  sum_mapped : (f : Row → Ticket) (n : Ticket → ℕ) (rows : List Row) → sum_by n (map f rows) ≡ sum_by (λ r. n (f r)) rows
  sum_mapped f n [] = refl
  sum_mapped f n (r ∷ rows) = sum_by-cons n (f r) (map f rows) ∙ ap (λ k. n (f r) + k) (sum_mapped f n rows) ∙ sym (sum_by-cons (λ x. n (f x)) r rows)

pub running-table : (j : List Event) → is_legal j ≡ true → length (running j) ≡ count_by (λ r. is_open r.phase) (table_of j)
running-table j l =
    let tab = tabled j l in
    ap (λ ts. length (filter (λ t. not (occurs (ends t) j)) ts)) (tickets-rows j (table_of j) tab)
    ∙ length-filter_map (λ t. not (occurs (ends t) j)) (table_of j)
    ∙ sum-agrees (λ r. cond (not (occurs (ends r.ticket) j)) 1 0) (λ r. cond (is_open r.phase) 1 0) (table_of j)
    (Each-map (λ r. r.phase ≡ phase_of r.ticket j) (λ r. cond (not (occurs (ends r.ticket) j)) 1 0 ≡ cond (is_open r.phase) 1 0)
    (λ r e. ap (λ b. cond b 1 0) (ap not (ends-phase r.ticket j) ∙ not_not (is_open (phase_of r.ticket j)) ∙ ap is_open (sym e))) (table_of j) tab.phases)

made-then : (v : Who) (j : List Event) (w : Who) (e : What) → made_by v (then j w e) ≡ made_by v j + cond (same_maker w v) 1 0
made-then v j w e = sum_by_push (λ (x : Event). cond (same_maker x.who v) 1 0) j (record { who = w; what = e })

-- the waiting tickets after an event that ends nothing
pub waits_kept : (ts : List Ticket) (e : What) → ((t : Ticket) (c : Code) (n : ℕ) → e ≡ what.Done t c n → ⊥) → filter (λ t. not (reads t e || removes t e)) ts ≡ waits_after ts e
waits_kept ts (what.Done t c n) h = absurd (h t c n refl)
waits_kept ts (what.Added h t) k = refl
waits_kept ts (what.Removed h t) k = refl
waits_kept ts (what.Read t) k = refl
waits_kept ts (what.Paused t) k = refl
waits_kept ts (what.Resumed t) k = refl
waits_kept ts what.Wake k = refl

waits_left : (j : List Event) (w : Who) (e : What) → message_of e ≡ None
    → filter (λ t. not (reads t e || removes t e)) (map (λ m. m.ticket) (waiting j)) ≡ map (λ m. m.ticket) (waiting (then j w e))
waits_left j w e none =
    sym (ap (map (λ (m : Message). m.ticket)) (waiting-then j w e ∙ ap (λ o. filter (λ m. not (reads m.ticket e || removes m.ticket e)) (waiting j) ++ option_to_list o) none ∙ append-nil _)
    ∙ filter_messages (λ t. not (reads t e || removes t e)) (waiting j))

pub waits-then : (j : List Event) (w : Who) (e : What) → waits_after (map (λ m. m.ticket) (waiting j)) e ≡ map (λ m. m.ticket) (waiting (then j w e))
waits-then j w (what.Done t c n) =
    let m : Message = record { ticket = t; code = c; size = n } in
    sym (ap (map (λ (m : Message). m.ticket)) (waiting-then j w (what.Done t c n) ∙ ap (λ z. z ++ m ∷ []) (filter_true (waiting j)))
    ∙ map-append (λ (m : Message). m.ticket) (waiting j) (m ∷ []))
waits-then j w (what.Added h t) = waits_left j w (what.Added h t) refl
waits-then j w (what.Removed h t) = waits_left j w (what.Removed h t) refl
waits-then j w (what.Read t) = waits_left j w (what.Read t) refl
waits-then j w (what.Paused t) = waits_left j w (what.Paused t) refl
waits-then j w (what.Resumed t) = waits_left j w (what.Resumed t) refl
waits-then j w what.Wake = waits_left j w what.Wake refl

-- where a poll may return after one more event
ready_past : (mark : ℕ) (j : List Event) → length j ≤ mark → is_ready mark j ≡ false
ready_past zero [] le = refl
ready_past (suc n) [] le = refl
ready_past zero (e ∷ j) le = absurd (omega arith)
ready_past (suc n) (e ∷ j) le = ready_past n j (omega arith)

ready_woken : (mark : ℕ) (j : List Event) (e : Event) → mark ≤ length j → wakes e.what ≡ true → is_ready mark (j ++ e ∷ []) ≡ true
ready_woken zero [] e le is = ap (λ b. b || false) is
ready_woken (suc n) [] e le is = absurd (omega arith)
ready_woken zero (x ∷ j) e le is = or_right _ _ (ready_woken zero j e (omega arith) is)
ready_woken (suc n) (x ∷ j) e le is = ready_woken n j e (omega arith) is

ready_quiet : (mark : ℕ) (j : List Event) (e : Event) → wakes e.what ≡ false → is_ready mark (j ++ e ∷ []) ≡ is_ready mark j
ready_quiet zero [] e is = ap (λ b. b || false) is
ready_quiet (suc n) [] e is = ready_past n [] (omega arith)
ready_quiet zero (x ∷ j) e is = ap (λ b. wakes x.what || b) (ready_quiet zero j e is)
ready_quiet (suc n) (x ∷ j) e is = ready_quiet n j e is

woke-then : (j : List Event) (e : Event) (woken : ℕ) → ((mark : ℕ) → nat_lt mark woken ≡ is_ready mark j)
    → (mark : ℕ) → nat_lt mark (cond (wakes e.what) (length j + 1) woken) ≡ is_ready mark (j ++ e ∷ [])
woke-then j e woken k mark = go (wakes e.what) refl
  where
    later : wakes e.what ≡ true → (b : Bool) → nat_lt mark (length j + 1) ≡ b → b ≡ is_ready mark (j ++ e ∷ [])
    later is true b = let lt = ltb-true mark (length j + 1) b in sym (ready_woken mark j e (omega arith) is)
    later is false b = let le = ltb-false mark (length j + 1) b in sym (ready_past mark (j ++ e ∷ []) (omega (arith, length-append j (e ∷ []))))

    go : (b : Bool) → wakes e.what ≡ b → nat_lt mark (cond b (length j + 1) woken) ≡ is_ready mark (j ++ e ∷ [])
    go true is = later is (nat_lt mark (length j + 1)) refl
    go false is = k mark ∙ sym (ready_quiet mark j e is)

-- the table of one more event
pub table-of-then : (j : List Event) (w : Who) (e : What) (t u : TableView) → IsTableOf j t → may_follow j e ≡ true
    → u.rows ≡ rows_after t.rows e → u.waiting ≡ waits_after t.waiting e → u.beyond ≡ max t.beyond (past e) → u.events ≡ t.events + 1 → u.woken ≡ cond (wakes e) (t.events + 1) t.woken
    → ((v : Who) → is_maker v ≡ true → count_of v u.makers ≡ count_of v t.makers + cond (same_maker w v) 1 0)
    → IsTableOf (then j w e) u
table-of-then j w e t u x m rows waits adds events woken made = record {
  legal = legal-then j w e x.legal m;
  rowed = rows ∙ ap (λ r. rows_after r e) x.rowed ∙ sym (table-then j w e);
  waits = waits ∙ ap (λ ts. waits_after ts e) x.waits ∙ waits-then j w e;
  numbered = adds ∙ ap (λ n. max n (past e)) x.numbered ∙ sym (beyond-then j w e);
  counted = events ∙ ap (λ n. n + 1) x.counted ∙ sym (length-append j (record { who = w; what = e } ∷ []));
  woke = λ mark. ap (nat_lt mark) (woken ∙ ap (λ n. cond (wakes e) (n + 1) t.woken) x.counted) ∙ woke-then j (record { who = w; what = e }) t.woken x.woke mark;
  made = λ v h. made v h ∙ ap (λ n. n + cond (same_maker w v) 1 0) (x.made v h) ∙ sym (made-then v j w e);
}

-- an addition finds room in the table, and an event in the journal
pub row_fits : (j : List Event) (h : HandleId) (t : Ticket) → is_legal j ≡ true → may_follow j (what.Added h t) ≡ true → length (table_of j) < most_handles
row_fits j h t l m =
    let k = and_parts (not (has_handle h (added j))) (nat_lt (length (added j)) most_handles) (and_parts (not (has_handle h (added j)) && nat_lt (length (added j)) most_handles) (nat_le (beyond j) t.0) m).0 in
    let lt = ltb-true (length (added j)) most_handles k.1 in
    omega (arith, length-rows j (table_of j) (tabled j l))

pub event_fits : (history : ℕ) (j : List Event) (w : Who) (e : What) → HasRoomForDue history j → may_follow j e ≡ true → has_room history j (needs e) ≡ true → length j < history
event_fits history j w e k m r =
    let x = kept-then history j w e k m r in
    let room = x.room in
    omega (arith, length-append j (record { who = w; what = e } ∷ []))
