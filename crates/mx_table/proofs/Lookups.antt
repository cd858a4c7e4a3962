-- Rows by a number among the rows' numbers, and a change of each row of one ticket.
use Rattle.std.proofs.Common.{◌≡◌, ◌≢◌, ℕ, ◌+◌, ◌-◌, ◌<◌, ◌≤◌, ◌∙◌, sym, refl, ap, arith, length, get_or, take, drop, List, [], ◌∷◌, Bool, true, false, cond, map, inl, inr}
use Rattle.std.specs.Prelude.{zero, suc, ◌==◌, ◌||◌, slice_index, slice_set, Option, Some, None}
use Rattle.std.specs.List.{filter, find, list_any, remove}
use Rattle.std.specs.Option.{is_some}
use Rattle.std.proofs.lemmas.Bool.{cases_lt, eq-eqb, ne_eqb}
use Rattle.std.proofs.lemmas.List.{get_or-drop, get_or-map, get_or-set_other, get_or-set_same, length-drop, length-map, map-set, set-get_or, take_rest}
use Rattle.mx_types.specs.declared.event.What.{What}
use Rattle.mx_types.specs.declared.event.What.TheVariants as what
use Rattle.mx_types.specs.declared.names.Ticket.{Ticket}
use Rattle.mx_history.specs.declared.row.Row.{Row}
use Rattle.mx_history.specs.declared.row.Phase.{Phase}
use Rattle.mx_history.specs.declared.row.Phase.TheVariants as phase
use Rattle.mx_history.specs.History.{same_ticket}
use Rattle.mx_history.specs.Rows.{ended_phase, read_phase, phase_after, turned}

-- 1. The row whose number is wanted.

found : (key : Row → ℕ) (w : ℕ) (rows : List Row) (i : ℕ) (row : Row) → i < length (map key rows) → slice_index (map key rows) i ≡ w
    → ((k : ℕ) → k < i → slice_index (map key rows) k ≢ w) → row ≡ get_or rows i row → Some row ≡ find (λ r. w == key r) rows
found key w [] i row lt there first at = absurd (omega (arith, lt))
found key w (r ∷ rows) zero row lt there first at =
    ap (λ (x : Row). Some x) at ∙ sym (ap (λ (b : Bool). cond {A = Option Row} b (Some r) (find (λ x. w == key x) rows)) (eq-eqb w (key r) (sym there)))
found key w (r ∷ rows) (suc i) row lt there first at =
    found key w rows i row (omega (arith, lt)) there (λ k less. first (suc k) (omega (arith, less))) at
    ∙ sym (ap (λ (b : Bool). cond {A = Option Row} b (Some r) (find (λ x. w == key x) rows)) (ne_eqb w (key r) (λ e. first 0 (omega arith) (sym e))))

missing : (key : Row → ℕ) (w : ℕ) (rows : List Row) → ((k : ℕ) → k < length (map key rows) → slice_index (map key rows) k ≢ w) → None ≡ find (λ r. w == key r) rows
missing key w [] none = refl
missing key w (r ∷ rows) none =
    missing key w rows (λ k less. none (suc k) (omega (arith, less)))
    ∙ sym (ap (λ (b : Bool). cond {A = Option Row} b (Some r) (find (λ x. w == key x) rows)) (ne_eqb w (key r) (λ e. none 0 (omega arith) (sym e))))

pub row_found : (key : Row → ℕ) (w : ℕ) (rows : List Row) (keys : List ℕ) (i : ℕ) (row : Row) → keys ≡ map key rows → i < length keys → slice_index keys i ≡ w
    → ((k : ℕ) → k < i → slice_index keys k ≢ w) → row ≡ get_or rows i row → Some row ≡ find (λ r. w == key r) rows
row_found key w rows keys i row kept lt there first at = found key w rows i row (rw kept at lt) (rw kept at there) (rw kept at first) at

pub row_missing : (key : Row → ℕ) (w : ℕ) (rows : List Row) (keys : List ℕ) → keys ≡ map key rows → ((k : ℕ) → k < length keys → slice_index keys k ≢ w) → None ≡ find (λ r. w == key r) rows
row_missing key w rows keys kept none = missing key w rows (rw kept at none)

-- one is found where one passes
pub is_found : (p : Row → Bool) (rows : List Row) → is_some (find p rows) ≡ list_any p rows
is_found p [] = refl
is_found p (r ∷ rows) = go (p r) (is_found p rows)
  where
    go : (b : Bool) → is_some (find p rows) ≡ list_any p rows → is_some (cond {A = Option Row} b (Some r) (find p rows)) ≡ (b || list_any p rows)
    go true k = refl
    go false k = k

-- 2. The next row of a ticket.

-- the tickets' numbers from a place on, as they are looked through
abbrev rest : ℕ → List ℕ → List ℕ
rest from ts = take (length ts - from) (drop from ts)

key_at : (rows : List Row) (ts : List ℕ) (from n : ℕ) (d : Row) → ts ≡ map (λ r. r.ticket.0) rows → from + n < length rows → slice_index (rest from ts) n ≡ (get_or rows (from + n) d).ticket.0
key_at rows ts from n d kept lt =
    ap (λ xs. slice_index xs n) (take_rest ts from) ∙ get_or-drop from ts n 0 ∙ ap (λ xs. slice_index xs (from + n)) kept ∙ get_or-map (λ (r : Row). r.ticket.0) rows (from + n) d 0 lt

pub next_within : (rows : List Row) (ts : List ℕ) (from n : ℕ) → ts ≡ map (λ r. r.ticket.0) rows → n < length (rest from ts) → from + n < length rows
next_within rows ts from n kept lt = omega (arith, lt, ap length (take_rest ts from), length-drop from ts, ap length kept, length-map rows (λ (r : Row). r.ticket.0))

pub next_is_not : (rows : List Row) (ts : List ℕ) (from k : ℕ) (d : Row) (t : Ticket) → ts ≡ map (λ r. r.ticket.0) rows → from ≤ k → k < length rows → slice_index (rest from ts) (k - from) ≢ t.0
    → same_ticket (get_or rows k d).ticket t ≡ false
next_is_not rows ts from k d t kept le lt h =
    let e : from + (k - from) ≡ k = omega (arith, le) in
    ne_eqb _ t.0 (λ same. h (key_at rows ts from (k - from) d kept (omega (arith, e, lt)) ∙ ap (λ n. (get_or rows n d).ticket.0) e ∙ same))

pub rest_long : (rows : List Row) (ts : List ℕ) (from k : ℕ) → ts ≡ map (λ r. r.ticket.0) rows → from ≤ k → k < length rows → k - from < length (rest from ts)
rest_long rows ts from k kept le lt = omega (arith, le, lt, ap length (take_rest ts from), length-drop from ts, ap length kept, length-map rows (λ (r : Row). r.ticket.0))

-- 3. Each row of a ticket removed.

pub filter_removed : (p : Row → Bool) (rows : List Row) (i : ℕ) → i < length rows → ((d : Row) → p (get_or rows i d) ≡ false) → filter p (remove rows i) ≡ filter p rows
filter_removed p [] i lt h = absurd (omega (arith, lt))
filter_removed p (r ∷ rows) zero lt h = sym (ap (λ b. cond b (r ∷ filter p rows) (filter p rows)) (h r))
filter_removed p (r ∷ rows) (suc i) lt h = ap (λ xs. cond (p r) (r ∷ xs) xs) (filter_removed p rows i (omega (arith, lt)) h)

pub filter_none : (p : Row → Bool) (rows : List Row) → ((k : ℕ) (d : Row) → k < length rows → p (get_or rows k d) ≡ true) → filter p rows ≡ rows
filter_none p [] h = refl
filter_none p (r ∷ rows) h =
    ap (λ b. cond b (r ∷ filter p rows) (filter p rows)) (h 0 r (omega arith)) ∙ ap (λ xs. r ∷ xs) (filter_none p rows (λ k d lt. h (suc k) d (omega (arith, lt))))

-- 4. Each row of a ticket turned.

twice : (b : Bool) (f : Phase → Phase) → ((p : Phase) → f (f p) ≡ f p) → (p : Phase) → cond b (f (cond b (f p) p)) (cond b (f p) p) ≡ cond b (f p) p
twice true f h p = h p
twice false f h p = refl

ended_twice : (new p : Phase) → ended_phase new (ended_phase new p) ≡ ended_phase new p
ended_twice phase.Running phase.Running = refl
ended_twice phase.Paused phase.Running = refl
ended_twice (phase.Done c) phase.Running = refl
ended_twice (phase.Read c) phase.Running = refl
ended_twice phase.Running phase.Paused = refl
ended_twice phase.Paused phase.Paused = refl
ended_twice (phase.Done c) phase.Paused = refl
ended_twice (phase.Read c) phase.Paused = refl
ended_twice new (phase.Done c) = refl
ended_twice new (phase.Read c) = refl

read_twice : (p : Phase) → read_phase (read_phase p) ≡ read_phase p
read_twice phase.Running = refl
read_twice phase.Paused = refl
read_twice (phase.Done c) = refl
read_twice (phase.Read c) = refl

after_twice : (t : Ticket) (e : What) (p : Phase) → phase_after t e (phase_after t e p) ≡ phase_after t e p
after_twice t (what.Added _ _) p = refl
after_twice t (what.Removed _ _) p = refl
after_twice t (what.Done u c _) p = twice (same_ticket t u) (ended_phase (phase.Done c)) (ended_twice (phase.Done c)) p
after_twice t (what.Read u) p = twice (same_ticket t u) read_phase read_twice p
after_twice t (what.Paused u) p = twice (same_ticket t u) (ended_phase phase.Paused) (ended_twice phase.Paused) p
after_twice t (what.Resumed u) p = twice (same_ticket t u) (ended_phase phase.Running) (ended_twice phase.Running) p
after_twice t what.Wake p = refl

pub turned_twice : (e : What) (r : Row) → turned e (turned e r) ≡ turned e r
turned_twice e r = let with : Phase → Row = λ p. record r { phase = p } in ap with (after_twice r.ticket e r.phase)

-- a row, for the reads of a list that is known to be long enough
pub any_row : Row
any_row = record { handle = record { 0 = 0 }; ticket = record { 0 = 0 }; slot = 0; phase = phase.Running }

pub map_turned : (e : What) (rows : List Row) (i : ℕ) (d : Row) → i < length rows → map (turned e) (slice_set rows i (turned e (get_or rows i d))) ≡ map (turned e) rows
map_turned e rows i d lt =
    map-set (turned e) rows i (turned e (get_or rows i d))
    ∙ ap (λ (x : Row). slice_set (map (turned e) rows) i x) (turned_twice e (get_or rows i d) ∙ sym (get_or-map (turned e) rows i d d lt)) ∙ set-get_or (map (turned e) rows) i d

-- where the event changes no row before a place, it changes none up to the row there, once that is turned
pub idle_up_to : (e : What) (rows : List Row) (i : ℕ) (d : Row) → i < length rows → ((k : ℕ) (x : Row) → k < i → turned e (get_or rows k x) ≡ get_or rows k x)
    → (k : ℕ) (x : Row) → k < i + 1 → turned e (get_or (slice_set rows i (turned e (get_or rows i d))) k x) ≡ get_or (slice_set rows i (turned e (get_or rows i d))) k x
idle_up_to e rows i d lt h k x below =
    let row = turned e (get_or rows i d) in
    elim (cases_lt k i) [
      | inl before ↦
          let other = get_or-set_other rows i k row x (λ same. absurd (omega (arith, before, same))) in
          ap (turned e) other ∙ h k x before ∙ sym other
      | inr past ↦
          let same : k ≡ i = omega (arith, past, below) in
          let here : get_or (slice_set rows i row) k x ≡ row = ap (λ n. get_or (slice_set rows i row) n x) same ∙ get_or-set_same rows i row x lt in
          ap (turned e) here ∙ turned_twice e (get_or rows i d) ∙ sym here
    ]

pub map_idle : (e : What) (rows : List Row) → ((k : ℕ) (d : Row) → k < length rows → turned e (get_or rows k d) ≡ get_or rows k d) → map (turned e) rows ≡ rows
map_idle e [] h = refl
map_idle e (r ∷ rows) h = ap (λ x. x ∷ map (turned e) rows) (h 0 r (omega arith)) ∙ ap (λ xs. r ∷ xs) (map_idle e rows (λ k d lt. h (suc k) d (omega (arith, lt))))
