-- The rows have the slots of the events.
use Rattle.std.proofs.Common.{◌≡◌, ℕ, ◌+◌, ◌<◌, ◌∙◌, sym, refl, ap, arith, length, take, get_or, List, [], ◌∷◌, Bool, true, false, cond, map}
use Rattle.std.specs.Prelude.{suc, not, ◌||◌, ◌==◌, slice_set, Option, Some, None}
use Rattle.std.specs.List.{filter, list_any, find}
use Rattle.std.specs.Option.{option_map, unwrap_or}
use Rattle.std.proofs.lemmas.Bool.{eqb-true, eq-eqb, false≢true}
use Rattle.std.proofs.lemmas.List.{map-append, take_more, get_or-set_same, get_or-set_other}
use Rattle.std.proofs.lemmas.List.Folds.{list_any-append}
use Rattle.mx_types.specs.Limits.{most_handles}
use Rattle.mx_types.specs.declared.names.Ticket.{Ticket}
use Rattle.mx_types.specs.declared.event.What.{What}
use Rattle.mx_types.specs.declared.event.What.TheVariants as what
use Rattle.mx_types.specs.declared.event.Event.{Event}
use Rattle.mx_history.specs.declared.row.Row.{Row}
use Rattle.mx_history.specs.History.{same_ticket}
use Rattle.mx_history.specs.Slots.{has_slot, free_from, lowest_free, slots_after, slots_from, slots, slot_of}
use Rattle.mx_history.specs.Rows.{Marks, slots_in, turned, rows_after, table_from, table_of}
use Rattle.mx_history.proofs.Tables.{find-map, option_map_map, map_map}

abbrev slot_in : Row → Ticket × ℕ
slot_in r = (r.ticket, r.slot)

filter_slots : (p : Ticket → Bool) (rows : List Row) → map slot_in (filter (λ r. p r.ticket) rows) ≡ filter (λ s. p s.0) (map slot_in rows)
filter_slots p [] = refl
filter_slots p (r ∷ rows) = go (p r.ticket) ∙ ap (λ z. cond (p r.ticket) (slot_in r ∷ z) z) (filter_slots p rows)
  where
    go : (b : Bool) → map slot_in (cond b (r ∷ filter (λ x. p x.ticket) rows) (filter (λ x. p x.ticket) rows))
        ≡ cond b (slot_in r ∷ map slot_in (filter (λ x. p x.ticket) rows)) (map slot_in (filter (λ x. p x.ticket) rows))
    go true = refl
    go false = refl

slots_turned : (e : What) (rows : List Row) → map slot_in (map (turned e) rows) ≡ map slot_in rows
slots_turned e rows = map_map slot_in (turned e) slot_in (λ r. refl) rows

slots-then : (rows : List Row) (e : What) → slots_in (rows_after rows e) ≡ slots_after (slots_in rows) e
slots-then rows (what.Added h t) = map-append slot_in rows _
slots-then rows (what.Removed h t) = filter_slots (λ u. not (same_ticket u t)) rows
slots-then rows (what.Done t c n) = slots_turned (what.Done t c n) rows
slots-then rows (what.Read t) = slots_turned (what.Read t) rows
slots-then rows (what.Paused t) = slots_turned (what.Paused t) rows
slots-then rows (what.Resumed t) = slots_turned (what.Resumed t) rows
slots-then rows what.Wake = slots_turned what.Wake rows

slots_rows_from : (rows : List Row) (j : List Event) → slots_in (table_from rows j) ≡ slots_from (slots_in rows) j
slots_rows_from rows [] = refl
slots_rows_from rows (e ∷ j) = slots_rows_from (rows_after rows e.what) j ∙ ap (λ s. slots_from s j) (slots-then rows e.what)

pub slots-rows : (j : List Event) → slots_in (table_of j) ≡ slots j
slots-rows j = slots_rows_from [] j

pub slot_found : (j : List Event) (t : Ticket) (o : Option Row) → o ≡ find (λ r. same_ticket t r.ticket) (table_of j) → option_map (λ r. r.slot) o ≡ slot_of t j
slot_found j t o e =
    ap (option_map (λ (r : Row). r.slot)) e ∙ sym (option_map_map (λ (s : Ticket × ℕ). s.1) slot_in (find (λ (r : Row). same_ticket t r.ticket) (table_of j)))
    ∙ ap (option_map (λ (s : Ticket × ℕ). s.1)) (sym (find-map slot_in (λ s. same_ticket t s.0) (table_of j)))
    ∙ ap (λ (xs : List (Ticket × ℕ)). option_map (λ (s : Ticket × ℕ). s.1) (find (λ s. same_ticket t s.0) xs)) (slots-rows j)

pub has_slot-rows : (n : ℕ) (rows : List Row) → list_any (λ r. r.slot == n) rows ≡ has_slot n (slots_in rows)
has_slot-rows n [] = refl
has_slot-rows n (r ∷ rows) = ap (λ b. (r.slot == n) || b) (has_slot-rows n rows)

pub free_from-none : (n : ℕ) (s : List (Ticket × ℕ)) → free_from n 0 s ≡ None
unfolding free_from
free_from-none n s = refl

pub free_from-taken : (n k : ℕ) (s : List (Ticket × ℕ)) → has_slot n s ≡ true → free_from n (suc k) s ≡ free_from (n + 1) k s
unfolding free_from
free_from-taken n k s h = rw h refl

pub free_from-free : (n k : ℕ) (s : List (Ticket × ℕ)) → has_slot n s ≡ false → free_from n (suc k) s ≡ Some n
unfolding free_from
free_from-free n k s h = rw h refl

last_by : (b : Bool) → ◌≡◌ {A = ℕ} (unwrap_or (cond (not b) (Some 255) None) 255) 255
last_by true = refl
last_by false = refl

pub free_from-last : (s : List (Ticket × ℕ)) → unwrap_or (free_from 255 1 s) 255 ≡ 255
unfolding free_from
free_from-last s = last_by (has_slot 255 s)

pub lowest_free-is : (s : List (Ticket × ℕ)) → unwrap_or (free_from 0 most_handles s) 255 ≡ lowest_free s
unfolding lowest_free
lowest_free-is s = refl

marked : (a : Bool) → (a || (true || false)) ≡ true
marked true = refl
marked false = refl

unmarked : (a : Bool) → (a || (false || false)) ≡ a
unmarked true = refl
unmarked false = refl

-- the marks of some rows with one row more
pub marks_next : (rows : List Row) (i : ℕ) (d : Row) (marks : List Bool) → i < length rows → length marks ≡ most_handles → (get_or rows i d).slot < most_handles → Marks marks (take i rows)
    → Marks (slice_set marks (get_or rows i d).slot true) (take (i + 1) rows)
marks_next rows i d marks lt len few m n small =
    let r : Row = get_or rows i d in
    let more : has_slot n (slots_in (take (i + 1) rows)) ≡ (has_slot n (slots_in (take i rows)) || ((r.slot == n) || false)) =
    ap (λ x. has_slot n (slots_in x)) (take_more rows i d lt) ∙ ap (has_slot n) (map-append slot_in (take i rows) (r ∷ [])) ∙ list_any-append (λ (s : Ticket × ℕ). s.1 == n) (slots_in (take i rows)) (slot_in r ∷ []) in
    go r.slot (r.slot == n) refl few ∙ sym more
  where
    go : (k : ℕ) (b : Bool) → (k == n) ≡ b → k < most_handles → get_or (slice_set marks k true) n false ≡ (has_slot n (slots_in (take i rows)) || ((k == n) || false))
    go k true is below =
        let same : k ≡ n = eqb-true k n is in
        ap (λ x. get_or (slice_set marks k true) x false) (sym same) ∙ get_or-set_same marks k true false (omega (arith, len, below))
        ∙ sym (ap (λ b. has_slot n (slots_in (take i rows)) || (b || false)) is ∙ marked (has_slot n (slots_in (take i rows))))
    go k false is below =
        get_or-set_other marks k n true false (λ e. false≢true (sym is ∙ eq-eqb k n (sym e))) ∙ m n small
        ∙ sym (ap (λ b. has_slot n (slots_in (take i rows)) || (b || false)) is ∙ unmarked (has_slot n (slots_in (take i rows))))
