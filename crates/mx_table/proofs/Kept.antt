-- What is kept beside the rows, after each change of a row.
use Rattle.std.proofs.Common.{◌≡◌, ℕ, ◌+◌, ◌-◌, ◌*◌, ◌<◌, ◌≤◌, ◌∙◌, sym, ap, arith, length, length-append, get_or, take, drop, List, [], ◌∷◌, ◌++◌, map}
use Rattle.std.specs.Prelude.{suc, slice_index, slice_set}
use Rattle.std.specs.List.{remove}
use Rattle.std.proofs.lemmas.List.{map-append, map_push, map-set, set-get_or, get_or-map, take-map, drop-map, length-set}
use Rattle.std.proofs.lemmas.List.Edits.{length-remove}
use Rattle.std.proofs.lemmas.List.Sums.{sum_by-cons, sum_by-remove, sum_by-set, sum_by_push, get_or-le-sum_by}
use Rattle.mx_types.specs.Limits.{most_handles}
use Rattle.mx_history.specs.declared.row.Row.{Row}
use Rattle.mx_history.specs.declared.row.Phase.{Phase}
use Rattle.mx_history.specs.declared.row.Phase.TheVariants as phase
use Rattle.mx_history.specs.Rows.{places_of, places}
use Rattle.mx_table.specs.Kept.{AreKept}
use Rattle.mx_table.proofs.SlotCounts.{counts_added, counts_removed, counts_set}

few_places : (p : Phase) → places_of p ≤ 3
few_places phase.Running = omega arith
few_places phase.Paused = omega arith
few_places (phase.Done _) = omega arith
few_places (phase.Read _) = omega arith

pub places_few : (rows : List Row) → places rows ≤ 3 * length rows
places_few [] = omega arith
places_few (r ∷ rows) = omega (arith, sum_by-cons (λ (x : Row). places_of x.phase) r rows, few_places r.phase, places_few rows)

pub kept_added : (rows : List Row) (hs ts : List ℕ) (n : ℕ) (counts : List ℕ) (row : Row) → AreKept rows hs ts n counts → length rows < most_handles
    → AreKept (rows ++ row ∷ []) (hs ++ row.handle.0 ∷ []) (ts ++ row.ticket.0 ∷ []) (n + places_of row.phase) (slice_set counts row.slot (slice_index counts row.slot + 1))
kept_added rows hs ts n counts row k lt = record {
  few = omega (arith, length-append rows (row ∷ []), lt);
  handles = ap (λ xs. xs ++ row.handle.0 ∷ []) k.handles ∙ sym (map_push (λ (r : Row). r.handle.0) rows row);
  tickets = ap (λ xs. xs ++ row.ticket.0 ∷ []) k.tickets ∙ sym (map_push (λ (r : Row). r.ticket.0) rows row);
  due = ap (λ m. m + places_of row.phase) k.due ∙ sym (sum_by_push (λ (r : Row). places_of r.phase) rows row);
  slots = counts_added counts rows row k.slots;
}

map_removed : (f : Row → ℕ) (rows : List Row) (i : ℕ) → remove (map f rows) i ≡ map f (remove rows i)
map_removed f rows i =
    ap (λ xs. xs ++ drop (suc i) (map f rows)) (take-map f i rows) ∙ ap (λ xs. map f (take i rows) ++ xs) (drop-map f (suc i) rows)
    ∙ sym (map-append f (take i rows) (drop (suc i) rows))

-- the places of a row are among those of all
pub places_within : (rows : List Row) (i : ℕ) (row : Row) → i < length rows → row ≡ get_or rows i row → places_of row.phase ≤ places rows
places_within rows i row lt at =
    let here : places_of row.phase ≡ places_of (get_or rows i row).phase = ap (λ (r : Row). places_of r.phase) at in
    omega (arith, here, get_or-le-sum_by (λ (r : Row). places_of r.phase) rows i row lt)

pub kept_removed : (rows : List Row) (hs ts : List ℕ) (n : ℕ) (counts : List ℕ) (i : ℕ) (row : Row) → AreKept rows hs ts n counts → i < length rows → row ≡ get_or rows i row
    → AreKept (remove rows i) (remove hs i) (remove ts i) (n - places_of row.phase) (slice_set counts row.slot (slice_index counts row.slot - 1))
kept_removed rows hs ts n counts i row k lt at =
    let here : places_of (get_or rows i row).phase ≡ places_of row.phase = ap (λ (r : Row). places_of r.phase) (sym at) in record {
      few = omega (arith, length-remove rows i lt, k.few);
      handles = ap (λ xs. remove xs i) k.handles ∙ map_removed (λ r. r.handle.0) rows i;
      tickets = ap (λ xs. remove xs i) k.tickets ∙ map_removed (λ r. r.ticket.0) rows i;
      due = omega (arith, k.due, here, sum_by-remove (λ (r : Row). places_of r.phase) rows i row lt);
      slots = counts_removed counts rows i row k.slots lt at;
    }

map_same : (f : Row → ℕ) (rows : List Row) (i : ℕ) (before after : Row) → i < length rows → before ≡ get_or rows i before → f after ≡ f before → map f (slice_set rows i after) ≡ map f rows
map_same f rows i before after lt at same =
    map-set f rows i after ∙ ap (λ x. slice_set (map f rows) i x) (same ∙ ap f at ∙ sym (get_or-map f rows i before 0 lt)) ∙ set-get_or (map f rows) i 0

pub kept_set : (rows : List Row) (hs ts : List ℕ) (n : ℕ) (counts : List ℕ) (i : ℕ) (row after : Row) → AreKept rows hs ts n counts → i < length rows → row ≡ get_or rows i row
    → after.handle ≡ row.handle → after.ticket ≡ row.ticket → after.slot ≡ row.slot
    → AreKept (slice_set rows i after) hs ts (n - places_of row.phase + places_of after.phase) counts
kept_set rows hs ts n counts i row after k lt at handle ticket slot =
    let here : places_of (get_or rows i row).phase ≡ places_of row.phase = ap (λ (r : Row). places_of r.phase) (sym at) in record {
      few = omega (arith, length-set rows i after, k.few);
      handles = k.handles ∙ sym (map_same (λ r. r.handle.0) rows i row after lt at (ap (λ h. h.0) handle));
      tickets = k.tickets ∙ sym (map_same (λ r. r.ticket.0) rows i row after lt at (ap (λ t. t.0) ticket));
      due = omega (arith, k.due, here, places_within rows i row lt at, sum_by-set (λ (r : Row). places_of r.phase) rows i after row lt);
      slots = counts_set counts rows i row after k.slots lt at slot;
    }
