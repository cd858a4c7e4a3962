-- How many rows have each slot, and the lowest slot that none has.
use Rattle.std.proofs.Common.{◌≡◌, ◌≢◌, ℕ, ◌+◌, ◌-◌, ◌<◌, ◌≤◌, ◌∙◌, sym, refl, ap, arith, length, get_or, List, [], ◌∷◌, ◌++◌, Bool, true, false, cond}
use Rattle.std.specs.Prelude.{not, ◌||◌, ◌==◌, slice_index, slice_set}
use Rattle.std.specs.List.{count_by, list_any, position_or_len, range_with_len, remove}
use Rattle.std.specs.Option.{unwrap_or}
use Rattle.std.proofs.lemmas.Bool.{eqb-true, eqb-false, eq-eqb}
use Rattle.std.proofs.lemmas.List.{length-set, get_or-set_same, get_or-set_other, get_or_past}
use Rattle.std.proofs.lemmas.List.Folds.{find_at}
use Rattle.std.proofs.lemmas.List.FromFn.{get_or-range_with_len, length-range_with_len}
use Rattle.std.proofs.lemmas.List.Sums.{count_by-le-length, position_or_len_is, sum_by-cons, sum_by-remove, sum_by-set, sum_by_push, get_or-le-sum_by}
use Rattle.std.proofs.lemmas.Option.{unwrap_or-slice_get}
use Rattle.mx_types.specs.Limits.{most_handles}
use Rattle.mx_types.specs.declared.names.Ticket.{Ticket}
use Rattle.mx_history.specs.declared.row.Row.{Row}
use Rattle.mx_history.specs.Rows.{slots_in}
use Rattle.mx_history.specs.Slots.{has_slot, free_from, lowest_free}
use Rattle.mx_history.proofs.SlotLists.{has_slot-rows}
use Rattle.mx_table.specs.Kept.{AreCounts}

-- 1. Counts of none and of some.

none_passes : (p : Row → Bool) (rows : List Row) → count_by p rows ≡ 0 → list_any p rows ≡ false
none_passes p [] z = refl
none_passes p (r ∷ rows) z = go (p r) (count_by p (r ∷ rows)) (sum_by-cons (λ x. cond (p x) 1 0) r rows) z (none_passes p rows)
  where
    go : (b : Bool) (n : ℕ) → n ≡ cond b 1 0 + count_by p rows → n ≡ 0 → (count_by p rows ≡ 0 → list_any p rows ≡ false) → (b || list_any p rows) ≡ false
    go true n e zero later = absurd (omega (arith, e, zero))
    go false n e zero later = later (omega (arith, e, zero))

some_pass : (p : Row → Bool) (rows : List Row) → count_by p rows ≢ 0 → list_any p rows ≡ true
some_pass p [] h = absurd (h refl)
some_pass p (r ∷ rows) h = go (p r) (count_by p (r ∷ rows)) (sum_by-cons (λ x. cond (p x) 1 0) r rows) h (some_pass p rows)
  where
    go : (b : Bool) (n : ℕ) → n ≡ cond b 1 0 + count_by p rows → n ≢ 0 → (count_by p rows ≢ 0 → list_any p rows ≡ true) → (b || list_any p rows) ≡ true
    go true n e some later = refl
    go false n e some later = later (λ z. some (omega (arith, e, z)))

free : (counts : List ℕ) (rows : List Row) (n : ℕ) → AreCounts counts rows → n < most_handles → slice_index counts n ≡ 0 → not (has_slot n (slots_in rows)) ≡ true
free counts rows n a small z = ap not (sym (has_slot-rows n rows) ∙ none_passes (λ r. r.slot == n) rows (sym (a.count n small) ∙ z))

taken : (counts : List ℕ) (rows : List Row) (n : ℕ) → AreCounts counts rows → n < most_handles → slice_index counts n ≢ 0 → not (has_slot n (slots_in rows)) ≡ false
taken counts rows n a small some = ap not (sym (has_slot-rows n rows) ∙ some_pass (λ r. r.slot == n) rows (λ z. some (a.count n small ∙ z)))

-- 2. The lowest free slot.

lowest_at : (s : List (Ticket × ℕ)) (i : ℕ) → position_or_len (λ k. not (has_slot k s)) (range_with_len 0 most_handles) ≡ i → lowest_free s ≡ get_or (range_with_len 0 most_handles) i 255
unfolding lowest_free free_from
lowest_at s i e =
    let slots = range_with_len 0 most_handles in
    ap (λ o. unwrap_or o 255) (find_at (λ k. not (has_slot k s)) slots)
    ∙ unwrap_or-slice_get slots (position_or_len (λ k. not (has_slot k s)) slots) 255
    ∙ ap (λ k. get_or slots k 255) e

-- the number in the list of all slots
nth : (k : ℕ) → k < most_handles → get_or (range_with_len 0 most_handles) k 0 ≡ k
nth k small = get_or-range_with_len 0 most_handles k 0 small ∙ omega arith

test_at : (q : ℕ → Bool) (b : Bool) (k : ℕ) → k < most_handles → q k ≡ b → q (get_or (range_with_len 0 most_handles) k 0) ≡ b
test_at q b k small h = ap q (nth k small) ∙ h

pub lowest_found : (counts : List ℕ) (rows : List Row) (i : ℕ) → AreCounts counts rows → i < most_handles → slice_index counts i ≡ 0 → ((k : ℕ) → k < i → slice_index counts k ≢ 0) → i ≡ lowest_free (slots_in rows)
lowest_found counts rows i a small z before =
    let q : ℕ → Bool = λ k. not (has_slot k (slots_in rows)) in
    let long : length (range_with_len 0 most_handles) ≡ most_handles = length-range_with_len 0 most_handles in
    let at = position_or_len_is q (range_with_len 0 most_handles) i 0 (omega (arith, long, small))
    (λ k lt. test_at q false k (omega (arith, lt, small)) (taken counts rows k a (omega (arith, lt, small)) (before k lt)))
    (λ _. test_at q true i small (free counts rows i a small z)) in
    sym (lowest_at (slots_in rows) i at ∙ get_or-range_with_len 0 most_handles i 255 small ∙ omega arith)

pub lowest_of_none : (counts : List ℕ) (rows : List Row) → AreCounts counts rows → ((k : ℕ) → k < length counts → slice_index counts k ≢ 0) → 255 ≡ lowest_free (slots_in rows)
lowest_of_none counts rows a all =
    let q : ℕ → Bool = λ k. not (has_slot k (slots_in rows)) in
    let long : length (range_with_len 0 most_handles) ≡ most_handles = length-range_with_len 0 most_handles in
    let at = position_or_len_is q (range_with_len 0 most_handles) most_handles 0 (omega (arith, long))
    (λ k lt. test_at q false k lt (taken counts rows k a lt (all k (omega (arith, lt, a.each)))))
    (λ lt. absurd (omega (arith, lt, long))) in
    sym (lowest_at (slots_in rows) most_handles at ∙ get_or_past (range_with_len 0 most_handles) most_handles 255 (omega (arith, long)))

-- 3. A row more, a row less, and a row that keeps its slot.

written : (counts : List ℕ) (m n v : ℕ) (k : ℕ) → length counts ≡ most_handles → n < most_handles → ((m == n) ≡ true → v ≡ k) → ((m == n) ≡ false → slice_index counts n ≡ k) → slice_index (slice_set counts m v) n ≡ k
written counts m n v k long small here there = go (m == n) refl
  where
    go : (b : Bool) → (m == n) ≡ b → slice_index (slice_set counts m v) n ≡ k
    go true is =
        let same : m ≡ n = eqb-true m n is in
        ap (λ x. slice_index (slice_set counts x v) n) same ∙ get_or-set_same counts n v 0 (omega (arith, long, small)) ∙ here is
    go false is = get_or-set_other counts m n v 0 (λ e. eqb-false m n is (sym e)) ∙ there is

pub counts_added : (counts : List ℕ) (rows : List Row) (row : Row) → AreCounts counts rows → AreCounts (slice_set counts row.slot (slice_index counts row.slot + 1)) (rows ++ row ∷ [])
counts_added counts rows row a = record {
  each = length-set counts row.slot (slice_index counts row.slot + 1) ∙ a.each;
  count = λ n small.
      let more = sum_by_push (λ (r : Row). cond (r.slot == n) 1 0) rows row in
      written counts row.slot n (slice_index counts row.slot + 1) (count_by (λ r. r.slot == n) (rows ++ row ∷ [])) a.each small
      (λ is. ap (λ k. slice_index counts k + 1) (eqb-true row.slot n is) ∙ omega (arith, a.count n small, (rw is at more)))
      (λ is. omega (arith, a.count n small, (rw is at more)));
}

pub counts_removed : (counts : List ℕ) (rows : List Row) (i : ℕ) (row : Row) → AreCounts counts rows → i < length rows → row ≡ get_or rows i row
    → AreCounts (slice_set counts row.slot (slice_index counts row.slot - 1)) (remove rows i)
counts_removed counts rows i row a lt at = record {
  each = length-set counts row.slot (slice_index counts row.slot - 1) ∙ a.each;
  count = λ n small.
      let less : count_by (λ r. r.slot == n) (remove rows i) + cond (row.slot == n) 1 0 ≡ count_by (λ r. r.slot == n) rows =
      ap (λ (x : Row). count_by (λ r. r.slot == n) (remove rows i) + cond (x.slot == n) 1 0) at ∙ sum_by-remove (λ (r : Row). cond (r.slot == n) 1 0) rows i row lt in
      written counts row.slot n (slice_index counts row.slot - 1) (count_by (λ r. r.slot == n) (remove rows i)) a.each small
      (λ is. ap (λ k. slice_index counts k - 1) (eqb-true row.slot n is) ∙ omega (arith, a.count n small, (rw is at less)))
      (λ is. omega (arith, a.count n small, (rw is at less)));
}

-- the row at a place is counted
pub counted : (counts : List ℕ) (rows : List Row) (i : ℕ) (row : Row) → AreCounts counts rows → i < length rows → row ≡ get_or rows i row → row.slot < most_handles → 0 < slice_index counts row.slot
counted counts rows i row a lt at small =
    let f : Row → ℕ = λ r. cond (r.slot == row.slot) 1 0 in
    let one : f row ≡ 1 = ap (λ (b : Bool). cond {A = ℕ} b 1 0) (eq-eqb row.slot row.slot refl) in
    let here : f row ≡ f (get_or rows i row) = ap f at in
    omega (arith, a.count row.slot small, one, here, get_or-le-sum_by f rows i row lt)

-- no slot has more rows than there are
pub count_few : (counts : List ℕ) (rows : List Row) (n : ℕ) → AreCounts counts rows → n < most_handles → slice_index counts n ≤ length rows
count_few counts rows n a small = omega (arith, a.count n small, count_by-le-length (λ (r : Row). r.slot == n) rows)

pub counts_set : (counts : List ℕ) (rows : List Row) (i : ℕ) (row after : Row) → AreCounts counts rows → i < length rows → row ≡ get_or rows i row → after.slot ≡ row.slot → AreCounts counts (slice_set rows i after)
counts_set counts rows i row after a lt at same = record {
  each = a.each;
  count = λ n small.
      let f : Row → ℕ = λ r. cond (r.slot == n) 1 0 in
      let old : f (get_or rows i row) ≡ f row = ap f (sym at) in
      let new : f after ≡ f row = ap (λ s. cond (s == n) 1 0) same in
      omega (arith, a.count n small, sum_by-set f rows i after row lt, old, new);
}
