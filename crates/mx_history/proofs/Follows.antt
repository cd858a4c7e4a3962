-- The table takes in what may follow.
use Rattle.std.proofs.Common.{◌≡◌, ℕ, ◌+◌, ◌<◌, ◌≤◌, ◌∙◌, sym, refl, ap, subst, List, [], ◌∷◌, ◌++◌, length, length-append, Bool, true, false, cond, arith}
use Rattle.std.specs.Prelude.{max, not, ◌&&◌, ◌==◌, nat_lt, slice_index, slice_set}
use Rattle.std.proofs.lemmas.Bool.{ltb-true, lt-ltb, and_parts, and_from, eqb-true, eq-eqb, false≢true}
use Rattle.std.proofs.lemmas.List.{length-map, length-set, get_or-set_same, get_or-set_other}
use Rattle.std.proofs.lemmas.List.Sums.{length-filter, count_by-le-length}
use Rattle.mx_types.specs.Limits.{most_handles, most_seats}
use Rattle.mx_types.specs.declared.event.Who.{Who}
use Rattle.mx_types.specs.declared.event.Who.TheVariants as maker
use Rattle.mx_types.specs.declared.event.What.{What}
use Rattle.mx_types.specs.declared.event.What.TheVariants as what
use Rattle.mx_types.specs.declared.event.Event.{Event}
use Rattle.mx_history.specs.declared.row.Row.{Row}
use Rattle.mx_history.specs.History.{wakes, past, same_ticket, is_maker, same_maker, may_follow}
use Rattle.mx_history.specs.Rows.{rows_after, waits_after, turned}
use Rattle.mx_history.specs.Table.{Counts, TableView, count_of, IsTableOf, HasCounters, count_one, counts_after, has_space_for, has_space, table_after}
use Rattle.mx_history.specs.Laws.{TableFollows}
use Rattle.mx_history.proofs.TableLaws.{row_fits, table-of-then}
use Rattle.mx_history.proofs.Tickets.{waits_short}

-- 1. What an event does to the rows.

push_few : (rows : List Row) (r : Row) → length rows < most_handles → length (rows ++ r ∷ []) ≤ most_handles
push_few rows r lt = omega (arith, length-append rows (r ∷ []))

pub rows_few : (t : TableView) (e : What) → length t.rows ≤ most_handles → has_space t e ≡ true → length (rows_after t.rows e) ≤ most_handles
rows_few t (what.Added h u) few s =
    push_few t.rows _ (ltb-true (length t.rows) most_handles (and_parts (nat_lt (length t.rows) most_handles) _ s).0)
rows_few t (what.Removed h u) few s = omega (arith, few, length-filter (λ (r : Row). not (same_ticket r.ticket u)) t.rows, count_by-le-length (λ (r : Row). not (same_ticket r.ticket u)) t.rows)
rows_few t (what.Done u c n) few s = omega (arith, few, length-map t.rows (turned (what.Done u c n)))
rows_few t (what.Read u) few s = omega (arith, few, length-map t.rows (turned (what.Read u)))
rows_few t (what.Paused u) few s = omega (arith, few, length-map t.rows (turned (what.Paused u)))
rows_few t (what.Resumed u) few s = omega (arith, few, length-map t.rows (turned (what.Resumed u)))
rows_few t what.Wake few s = omega (arith, few, length-map t.rows (turned what.Wake))

-- 2. What may follow has space.

space_for : (j : List Event) (t : TableView) (e : What) → IsTableOf j t → may_follow j e ≡ true → has_space_for t e ≡ true
space_for j t (what.Added h u) x m = lt-ltb (length t.rows) most_handles (subst (λ (rows : List Row). length rows < most_handles) (sym x.rowed) (row_fits j h u x.legal m))
space_for j t (what.Done u c n) x m = lt-ltb (length t.waiting) most_handles (subst (λ ts. length ts < most_handles) (sym x.waits) (waits_short j u x.legal m))
space_for j t (what.Removed h u) x m = refl
space_for j t (what.Read u) x m = refl
space_for j t (what.Paused u) x m = refl
space_for j t (what.Resumed u) x m = refl
space_for j t what.Wake x m = refl

has : (j : List Event) (t : TableView) (e : What) → IsTableOf j t → may_follow j e ≡ true → length j < 4294967295 → has_space t e ≡ true
has j t e x m few =
    let events : t.events < 4294967295 = omega (arith, x.counted) in
    and_from (has_space_for t e) _ (space_for j t e x m) (lt-ltb t.events 4294967295 events)

-- 3. The counts of makers.

counted_one : (m n : ℕ) (cs : List ℕ) → length cs ≡ most_seats → n < most_seats → slice_index cs n < 4294967295 → (b : Bool) → (m == n) ≡ b → slice_index (count_one m cs) n ≡ slice_index cs n + cond b 1 0
counted_one m n cs len small room true is =
    let same : m ≡ n = eqb-true m n is in
    let test : (nat_lt m most_seats && nat_lt (slice_index cs m) 4294967295) ≡ true = subst (λ k. (nat_lt k most_seats && nat_lt (slice_index cs k) 4294967295) ≡ true) (sym same) (and_from (nat_lt n most_seats) _ (lt-ltb n most_seats small) (lt-ltb (slice_index cs n) 4294967295 room)) in
    let up : count_one m cs ≡ slice_set cs m (slice_index cs m + 1) = ap (λ b. cond b (slice_set cs m (slice_index cs m + 1)) cs) test in
    ap (λ c. slice_index c n) up ∙ ap (λ k. slice_index (slice_set cs k (slice_index cs k + 1)) n) same ∙ get_or-set_same cs n (slice_index cs n + 1) 0 (omega arith)
counted_one m n cs len small room false is = go (nat_lt m most_seats && nat_lt (slice_index cs m) 4294967295) ∙ sym (omega arith)
  where
    other : n ≡ m → ⊥
    other e = false≢true (sym is ∙ ap (λ k. k == n) (sym e) ∙ eq-eqb n n refl)

    go : (b : Bool) → slice_index (cond b (slice_set cs m (slice_index cs m + 1)) cs) n ≡ slice_index cs n
    go true = get_or-set_other cs m n (slice_index cs m + 1) 0 other
    go false = refl

counted : (w v : Who) (c : Counts) → HasCounters c → is_maker v ≡ true → count_of v c < 4294967295 → count_of v (counts_after w c) ≡ count_of v c + cond (same_maker w v) 1 0
counted (maker.Seat m) (maker.Seat n) c size is room = counted_one m n c.seats size.0 (ltb-true n most_seats is) room (m == n) refl
counted (maker.Worker m) (maker.Worker n) c size is room = counted_one m n c.workers size.1 (ltb-true n most_seats is) room (m == n) refl
counted (maker.Seat m) (maker.Worker n) c size is room = omega arith
counted (maker.Worker m) (maker.Seat n) c size is room = omega arith

sized_one : (n : ℕ) (cs : List ℕ) → length cs ≡ most_seats → length (count_one n cs) ≡ most_seats
sized_one n cs len = go (nat_lt n most_seats && nat_lt (slice_index cs n) 4294967295)
  where
    go : (b : Bool) → length (cond b (slice_set cs n (slice_index cs n + 1)) cs) ≡ most_seats
    go true = length-set cs n (slice_index cs n + 1) ∙ len
    go false = len

sized : (w : Who) (c : Counts) → HasCounters c → HasCounters (counts_after w c)
sized (maker.Seat n) c s = (sized_one n c.seats s.0, s.1)
sized (maker.Worker n) c s = (s.0, sized_one n c.workers s.1)

-- 4. The table with the event.

abbrev entered : TableView → Event → TableView
entered t e = record {
  rows = rows_after t.rows e.what;
  waiting = waits_after t.waiting e.what;
  beyond = max t.beyond (past e.what);
  events = t.events + 1;
  woken = cond (wakes e.what) (t.events + 1) t.woken;
  makers = counts_after e.who t.makers;
}

pub table_follows : TableFollows
table_follows j t e x size m few =
    let all : table_after t e ≡ entered t e = ap (λ b. cond b (entered t e) t) (has j t e.what x m few) in
    let count : (v : Who) → is_maker v ≡ true → count_of v (counts_after e.who t.makers) ≡ count_of v t.makers + cond (same_maker e.who v) 1 0 =
    λ v is. counted e.who v t.makers size is (omega (arith, x.made v is, count_by-le-length (λ (y : Event). same_maker y.who v) j)) in
    let is : IsTableOf (j ++ e ∷ []) (entered t e) = table-of-then j e.who e.what t (entered t e) x m refl refl refl refl refl count in
    (subst (IsTableOf (j ++ e ∷ [])) (sym all) is, subst (λ (u : TableView). HasCounters u.makers) (sym all) (sized e.who t.makers size))
