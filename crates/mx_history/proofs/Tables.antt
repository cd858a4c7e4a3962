-- The table agrees with the history.
use Rattle.std.proofs.Common.{◌≡◌, ℕ, ◌+◌, ◌∙◌, sym, refl, ap, subst, List, [], ◌∷◌, ◌++◌, append-nil, length, Bool, true, false, cond, map, arith, ◌<◌, ◌≤◌}
use Rattle.std.specs.Prelude.{nat_le, not, ◌&&◌, ◌||◌, Option, Some, None}
use Rattle.std.specs.List.{filter, list_any, find, AllByRecursion, sum_by}
use Rattle.std.specs.Option.{is_none, option_map}
use Rattle.std.proofs.lemmas.Bool.{leb-true, and_parts, false_from_ne_true, false≢true}
use Rattle.std.proofs.lemmas.List.{map-append, length-map}
use Rattle.std.proofs.lemmas.List.Sums.{sum_by-cons}
use Rattle.mx_types.specs.declared.code.Code.{Code}
use Rattle.mx_types.specs.declared.names.HandleId.{HandleId}
use Rattle.mx_types.specs.declared.names.Ticket.{Ticket}
use Rattle.mx_types.specs.declared.event.Who.{Who}
use Rattle.mx_types.specs.declared.event.What.{What}
use Rattle.mx_types.specs.declared.event.What.TheVariants as what
use Rattle.mx_types.specs.declared.event.Event.{Event}
use Rattle.mx_history.specs.History.{Addition, same_ticket, same_handle, occurs, removes, ends, added, running, beyond, has_ticket, phase_by, phase_of, due_of, due, may_follow}
use Rattle.mx_history.specs.declared.row.Row.{Row}
use Rattle.mx_history.specs.declared.row.Phase.{Phase}
use Rattle.mx_history.specs.declared.row.Phase.TheVariants as phase
use Rattle.mx_history.specs.Answers.{ticket_of, handle_of}
use Rattle.mx_history.specs.Rows.{phase_after, is_open, is_paused, is_read, turned, rows_after, table_from, table_of, places_of, places}
use Rattle.mx_history.proofs.Snoc.{phase_of-snoc}
use Rattle.mx_history.proofs.Lists.{Each-map, Each-append, Each-filter, filter_idle, filter_true, has-stays, has-filter}
use Rattle.mx_history.proofs.Histories.{tickets, Laws, added-then, ends-phase}
use Rattle.mx_history.specs.Laws.{then}

abbrev pub addition_in : Row → Addition
addition_in r = record { handle = r.handle; ticket = r.ticket }

pub record Tabled (j : List Event) (rows : List Row) : Type 0 where
  pub adds : map addition_in rows ≡ added j
  pub phases : AllByRecursion (λ r. r.phase ≡ phase_of r.ticket j) rows

pub table_from-snoc : (rows : List Row) (j : List Event) (e : Event) → table_from rows (j ++ e ∷ []) ≡ rows_after (table_from rows j) e.what
table_from-snoc rows [] e = refl
table_from-snoc rows (x ∷ j) e = table_from-snoc (rows_after rows x.what) j e

pub table-then : (j : List Event) (w : Who) (e : What) → table_of (then j w e) ≡ rows_after (table_of j) e
table-then j w e = table_from-snoc [] j (record { who = w; what = e })

pub map_map : {X Y Z : Type 0} (f : Y → Z) (g : X → Y) (h : X → Z) → ((x : X) → f (g x) ≡ h x) → (xs : List X) → map f (map g xs) ≡ map h xs
map_map f g h e [] = refl
map_map f g h e (x ∷ xs) = rw (e x, map_map f g h e xs)

Each-mapped : {X Y : Type 0} (f : X → Y) (P : X → Type 0) (Q : Y → Type 0) → ((x : X) → P x → Q (f x)) → (xs : List X) → AllByRecursion P xs → AllByRecursion Q (map f xs)
Each-mapped f P Q h [] a = tt
Each-mapped f P Q h (x ∷ xs) a = (h x a.0, Each-mapped f P Q h xs a.1)

-- an event that turns rows, and adds and removes none
turned-then : (j : List Event) (w : Who) (e : What) (rows : List Row) → Tabled j rows → added (then j w e) ≡ added j → Tabled (then j w e) (map (turned e) rows)
turned-then j w e rows t same = record {
  adds = map_map addition_in (turned e) addition_in (λ r. refl) rows ∙ t.adds ∙ sym same;
  phases = Each-mapped (turned e) (λ r. r.phase ≡ phase_of r.ticket j) (λ r. r.phase ≡ phase_of r.ticket (then j w e))
      (λ r p. ap (phase_after r.ticket e) p ∙ sym (phase_of-snoc r.ticket j (record { who = w; what = e }))) rows t.phases;
}

map-filter_rows : (p : Ticket → Bool) (xs : List Row) → map addition_in (filter (λ r. p r.ticket) xs) ≡ filter (λ a. p a.ticket) (map addition_in xs)
map-filter_rows p [] = refl
map-filter_rows p (x ∷ xs) = go (p x.ticket) ∙ ap (λ z. cond (p x.ticket) (addition_in x ∷ z) z) (map-filter_rows p xs)
  where
    go : (b : Bool) → map addition_in (cond b (x ∷ filter (λ r. p r.ticket) xs) (filter (λ r. p r.ticket) xs))
        ≡ cond b (addition_in x ∷ map addition_in (filter (λ r. p r.ticket) xs)) (map addition_in (filter (λ r. p r.ticket) xs))
    go true = refl
    go false = refl

same_phase : (j : List Event) (w : Who) (e : What) → ((t : Ticket) (p : Phase) → phase_after t e p ≡ p) → (r : Row) → r.phase ≡ phase_of r.ticket j → r.phase ≡ phase_of r.ticket (then j w e)
same_phase j w e idle r p = p ∙ sym (phase_of-snoc r.ticket j (record { who = w; what = e }) ∙ idle r.ticket _)

pub tabled-then : (j : List Event) (w : Who) (e : What) (rows : List Row) → Laws j → may_follow j e ≡ true → Tabled j rows → Tabled (then j w e) (rows_after rows e)
tabled-then j w (what.Added h t) rows l m tab =
    let e = what.Added h t in
    let n : beyond j ≤ t.0 = leb-true (beyond j) t.0 (and_parts _ (nat_le (beyond j) t.0) m).1 in
    record {
      adds = map-append addition_in rows _ ∙ ap (λ z. z ++ record { handle = h; ticket = t } ∷ []) (tab.adds ∙ sym (filter_true (added j))) ∙ sym (added-then j w e);
      phases = Each-append (λ r. r.phase ≡ phase_of r.ticket (then j w e)) rows _
          (Each-map (λ r. r.phase ≡ phase_of r.ticket j) (λ r. r.phase ≡ phase_of r.ticket (then j w e)) (same_phase j w e (λ _ _. refl)) rows tab.phases)
          (sym (phase_of-snoc t j (record { who = w; what = e }) ∙ (l.fresh t (omega arith)).0), tt);
    }
tabled-then j w (what.Removed h t) rows l m tab =
    let e = what.Removed h t in
    record {
      adds = map-filter_rows (λ u. not (same_ticket u t)) rows ∙ ap (filter (λ a. not (same_ticket a.ticket t))) tab.adds ∙ sym (append-nil _) ∙ sym (added-then j w e);
      phases = Each-filter (λ r. not (same_ticket r.ticket t)) (λ r. r.phase ≡ phase_of r.ticket j) (λ r. r.phase ≡ phase_of r.ticket (then j w e))
          (λ r _. same_phase j w e (λ _ _. refl) r) rows tab.phases;
    }
tabled-then j w (what.Done t c n) rows l m tab = turned-then j w (what.Done t c n) rows tab (added-then j w (what.Done t c n) ∙ filter_idle (added j))
tabled-then j w (what.Read t) rows l m tab = turned-then j w (what.Read t) rows tab (added-then j w (what.Read t) ∙ filter_idle (added j))
tabled-then j w (what.Paused t) rows l m tab = turned-then j w (what.Paused t) rows tab (added-then j w (what.Paused t) ∙ filter_idle (added j))
tabled-then j w (what.Resumed t) rows l m tab = turned-then j w (what.Resumed t) rows tab (added-then j w (what.Resumed t) ∙ filter_idle (added j))
tabled-then j w what.Wake rows l m tab = turned-then j w what.Wake rows tab (added-then j w what.Wake ∙ filter_idle (added j))

-- 2. What the table says of the history.

find_cond : {X Y : Type 0} (f : X → Y) (x : X) (b : Bool) (o : Option X) → cond b (Some (f x)) (option_map f o) ≡ option_map f (cond b (Some x) o)
find_cond f x true o = refl
find_cond f x false o = refl

pub find-map : {X Y : Type 0} (f : X → Y) (p : Y → Bool) (xs : List X) → find p (map f xs) ≡ option_map f (find (λ x. p (f x)) xs)
find-map f p [] = refl
find-map f p (x ∷ xs) = ap (cond (p (f x)) (Some (f x))) (find-map f p xs) ∙ find_cond f x (p (f x)) (find (λ y. p (f y)) xs)

pub option_map_map : {X Y Z : Type 0} (g : Y → Z) (f : X → Y) (o : Option X) → option_map g (option_map f o) ≡ option_map (λ x. g (f x)) o
option_map_map g f None = refl
option_map_map g f (Some x) = refl

pub ticket_of-rows : (j : List Event) (rows : List Row) → Tabled j rows → (h : HandleId) → ticket_of h j ≡ option_map (λ r. r.ticket) (find (λ r. same_handle h r.handle) rows)
ticket_of-rows j rows t h =
    ap (λ xs. option_map (λ (a : Addition). a.ticket) (find (λ a. same_handle h a.handle) xs)) (sym t.adds)
    ∙ ap (option_map (λ (a : Addition). a.ticket)) (find-map addition_in (λ a. same_handle h a.handle) rows) ∙ option_map_map _ addition_in _

pub handle_of-rows : (j : List Event) (rows : List Row) → Tabled j rows → (t : Ticket) → handle_of t j ≡ option_map (λ r. r.handle) (find (λ r. same_ticket t r.ticket) rows)
handle_of-rows j rows t u =
    ap (λ xs. option_map (λ (a : Addition). a.handle) (find (λ a. same_ticket u a.ticket) xs)) (sym t.adds)
    ∙ ap (option_map (λ (a : Addition). a.handle)) (find-map addition_in (λ a. same_ticket u a.ticket) rows) ∙ option_map_map _ addition_in _

pub Each-unmapped : {X Y : Type 0} (f : X → Y) (Q : Y → Type 0) (xs : List X) → AllByRecursion Q (map f xs) → AllByRecursion (λ x. Q (f x)) xs
Each-unmapped f Q [] a = tt
Each-unmapped f Q (x ∷ xs) a = (a.0, Each-unmapped f Q xs a.1)

pub sum-mapped : {X Y : Type 0} (f : X → Y) (n : Y → ℕ) (xs : List X) → sum_by n (map f xs) ≡ sum_by (λ x. n (f x)) xs
sum-mapped f n [] = refl
sum-mapped f n (x ∷ xs) =
    sum_by-cons n (f x) (map f xs) ∙ ap (λ k. n (f x) + k) (sum-mapped f n xs) ∙ sym (sum_by-cons (λ y. n (f y)) x xs)

pub sum-agrees : {X : Type 0} (m n : X → ℕ) (xs : List X) → AllByRecursion (λ x. m x ≡ n x) xs → sum_by m xs ≡ sum_by n xs
sum-agrees m n [] a = refl
sum-agrees m n (x ∷ xs) a =
    sum_by-cons m x xs ∙ ap (λ k. k + sum_by m xs) a.0 ∙ ap (λ k. n x + k) (sum-agrees m n xs a.1) ∙ sym (sum_by-cons n x xs)

pub not_not : (b : Bool) → not (not b) ≡ b
not_not true = refl
not_not false = refl

due_phase : (p : Phase) → cond (not (is_open p)) 0 1 + cond (is_read p) 0 1 + cond false 0 1 ≡ places_of p
due_phase phase.Running = refl
due_phase phase.Paused = refl
due_phase (phase.Done c) = refl
due_phase (phase.Read c) = refl

due_one : (j : List Event) → Laws j → (t : Ticket) (p : Phase) → p ≡ phase_of t j → occurs (removes t) j ≡ false → due_of t j ≡ places_of p
due_one j l t p e gone =
    rw (ends-phase t j, l.late t, gone, ← e) (due_phase p)

pub both : {X : Type 0} (P Q : X → Type 0) (xs : List X) → AllByRecursion P xs → AllByRecursion Q xs → AllByRecursion (λ x. P x × Q x) xs
both P Q [] a b = tt
both P Q (x ∷ xs) a b = ((a.0, b.0), both P Q xs a.1 b.1)

pub tickets-rows : (j : List Event) (rows : List Row) → Tabled j rows → tickets j ≡ map (λ r. r.ticket) rows
tickets-rows j rows t = ap (map (λ (a : Addition). a.ticket)) (sym t.adds) ∙ map_map _ addition_in (λ r. r.ticket) (λ r. refl) rows

pub due-rows : (j : List Event) (rows : List Row) → Laws j → Tabled j rows → due j ≡ places rows
due-rows j rows l t =
    let kept = Each-unmapped (λ (r : Row). r.ticket) (λ u. (u.0 < beyond j) × (occurs (removes u) j ≡ false)) rows (rw (← tickets-rows j rows t) l.kept) in
    ap (sum_by (λ (a : Addition). due_of a.ticket j)) (sym t.adds) ∙ sum-mapped addition_in (λ a. due_of a.ticket j) rows
    ∙ sum-agrees (λ r. due_of r.ticket j) (λ r. places_of r.phase) rows
    (Each-map (λ r. (r.phase ≡ phase_of r.ticket j) × ((r.ticket.0 < beyond j) × (occurs (removes r.ticket) j ≡ false))) (λ r. due_of r.ticket j ≡ places_of r.phase)
    (λ r x. due_one j l r.ticket r.phase x.0 x.1.1) rows (both _ _ rows t.phases kept))

pub length-rows : (j : List Event) (rows : List Row) → Tabled j rows → length (added j) ≡ length rows
length-rows j rows t = ap length (sym t.adds) ∙ length-map rows addition_in

-- a row that is found
found_one : {X : Type 0} (P : X → Type 0) (p : X → Bool) (x y : X) (xs : List X) (b : Bool) → p x ≡ b → P x
    → (find p xs ≡ Some y → P y × (p y ≡ true)) → cond b (Some x) (find p xs) ≡ Some y → P y × (p y ≡ true)
found_one P p x y xs true is a r h = let e : x ≡ y = cc in (subst P e a, ap p (sym e) ∙ is)
found_one P p x y xs false is a r h = r h

pub found : {X : Type 0} (P : X → Type 0) (p : X → Bool) (xs : List X) → AllByRecursion P xs → (y : X) → find p xs ≡ Some y → P y × (p y ≡ true)
found P p [] a y h = cc
found P p (x ∷ xs) a y h = found_one P p x y xs (p x) refl a.0 (found P p xs a.1 y) h

pub not_found : {X : Type 0} (p : X → Bool) (xs : List X) → list_any p xs ≡ not (is_none (find p xs))
not_found p [] = refl
not_found p (x ∷ xs) = elim (p x) as (λ b. (b || list_any p xs) ≡ not (is_none (cond b (Some x) (find p xs)))) [ true ↦ refl | false ↦ not_found p xs ]

-- a ticket that passes a filter
pub has-kept : (t : Ticket) (p : Ticket → Bool) (xs : List Ticket) → has_ticket t xs ≡ true → has_ticket t (filter p xs) ≡ p t
has-kept t p xs h = go (p t) refl where
  go : (b : Bool) → p t ≡ b → has_ticket t (filter p xs) ≡ b
  go true is = has-stays t p xs h is
  go false is = false_from_ne_true _ (λ k. false≢true (sym is ∙ (has-filter t p xs k).1))

pub runs-phase : (j : List Event) (t : Ticket) → has_ticket t (tickets j) ≡ true → has_ticket t (running j) ≡ is_open (phase_of t j)
runs-phase j t h =
    has-kept t (λ u. not (occurs (ends u) j)) (tickets j) h ∙ ap not (ends-phase t j) ∙ not_not (is_open (phase_of t j))

paused_by : (o : Option (Code × Bool)) (h : Bool) → (is_open (phase_by o h) && is_paused (phase_by o h)) ≡ is_paused (phase_by o h)
paused_by None true = refl
paused_by None false = refl
paused_by (Some (c, true)) h = refl
paused_by (Some (c, false)) h = refl

pub handles-rows : (j : List Event) (rows : List Row) → Tabled j rows → map (λ r. r.handle) rows ≡ map (λ a. a.handle) (added j)
handles-rows j rows t = sym (map_map (λ (a : Addition). a.handle) addition_in (λ r. r.handle) (λ r. refl) rows) ∙ ap (map (λ (a : Addition). a.handle)) t.adds
