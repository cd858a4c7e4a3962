-- The parts that are out, and those of the slots.
use Rattle.std.proofs.Common.{◌≡◌, ◌∙◌, refl, ap, sym, ℕ, ◌+◌, ◌≤◌, suc, zero, List, [], ◌∷◌, Bool, true, false, cond, arith}
use Rattle.std.specs.Prelude.{Some, ◌==◌, if◌then◌else◌, count_by, slice_get, slice_set}
use Rattle.std.specs.List.{AllByRecursion, Contains}
use Rattle.std.proofs.lemmas.Bool.{eq-eqb, eqb-true}
use Rattle.std.proofs.lemmas.List.Sums.{sum_by-cons}
use Rattle.mx_save.specs.Made.{without}
use Rattle.mx_save_book.specs.declared.job.Slot.{Slot}
use Rattle.mx_save_book.specs.declared.job.Slot.TheVariants as slot
use Rattle.mx_save_book.specs.Jobs.{AreOut, has_part, is_taken}
use Rattle.mx_save_book.proofs.Slots.{fresh_count}

abbrev one : Bool → ℕ
one b = cond b 1 0

first : {X : Type 0} (p : X → Bool) (x : X) (xs : List X) → count_by p (x ∷ xs) ≡ one (p x) + count_by p xs
first p x xs = sum_by-cons (λ y. cond (p y) 1 0) x xs

is_itself : (n : ℕ) → (n == n) ≡ true
is_itself n = eq-eqb n n refl

-- how many slots pass a test once one has changed
changed : (p : Slot → Bool) (slots : List Slot) (i : ℕ) (old v : Slot) → slice_get slots i ≡ Some old
    → count_by p (slice_set slots i v) + one (p old) ≡ count_by p slots + one (p v)
changed p [] i old v is = absurd (cc)
changed p (s ∷ ss) zero old v is = let same : s ≡ old = cc in omega (arith, first p s ss, first p v ss, ap (λ x. one (p x)) same)
changed p (s ∷ ss) (suc i) old v is = let h = changed p ss i old v is in omega (arith, first p s ss, first p s (slice_set ss i v), h)

-- how often a number is among others, without the first that is this one
without_count : (n m : ℕ) (ns : List ℕ) → 1 ≤ count_by (λ k. k == n) ns → count_by (λ k. k == m) (without n ns) + one (n == m) ≡ count_by (λ k. k == m) ns
without_count n m [] some = absurd (omega (arith, some))
without_count n m (x ∷ ns) some = by_test (without_count n m ns) (x == n) refl
  where
    by_test : (1 ≤ count_by (λ k. k == n) ns → count_by (λ k. k == m) (without n ns) + one (n == m) ≡ count_by (λ k. k == m) ns) → (b : Bool) → (x == n) ≡ b
        → count_by (λ k. k == m) (without n (x ∷ ns)) + one (n == m) ≡ count_by (λ k. k == m) (x ∷ ns)
    by_test more true e =
        let same : x ≡ n = eqb-true x n e in
        let now = ap (λ b. count_by (λ k. k == m) (if b then ns else x ∷ without n ns)) e in
        omega (arith, now, first (λ k. k == m) x ns, ap (λ y. one (y == m)) same)
    by_test more false e =
        let now = ap (λ b. count_by (λ k. k == m) (if b then ns else x ∷ without n ns)) e in
        let rest = more (omega (arith, some, first (λ k. k == n) x ns, ap one e)) in
        omega (arith, now, first (λ k. k == m) x (without n ns), first (λ k. k == m) x ns, rest)

among : (n : ℕ) (ns : List ℕ) → 1 ≤ count_by (λ k. k == n) ns → Contains ns n
among n [] some = absurd (omega (arith, some))
among n (x ∷ ns) some = by_test (among n ns) (x == n) refl
  where
    by_test : (1 ≤ count_by (λ k. k == n) ns → Contains ns n) → (b : Bool) → (x == n) ≡ b → Contains (x ∷ ns) n
    by_test more true e = (0, omega arith, eqb-true x n e)
    by_test more false e = let h = more (omega (arith, some, first (λ k. k == n) x ns, ap one e)) in (suc h.0, omega (arith, h.1), h.2)

-- a slot has the part of no other number
part_is : (s : Slot) (n m : ℕ) → has_part n s ≡ true → has_part m s ≡ (n == m)
part_is slot.Free n m is = absurd (cc)
part_is (slot.Waiting job) n m is = absurd (cc)
part_is (slot.Open job k) n m is = ap (λ x. x == m) (eqb-true k n is)
part_is (slot.Added job ticket k) n m is = ap (λ x. x == m) (eqb-true k n is)

-- a part was made for the URL in a slot
pub opened : (out : List ℕ) (slots : List Slot) (at n : ℕ) (old v : Slot) → AreOut out slots → slice_get slots at ≡ Some old → ((m : ℕ) → has_part m old ≡ false)
    → ((m : ℕ) → has_part m v ≡ (n == m)) → AreOut (n ∷ out) (slice_set slots at v)
opened out slots at n old v are was none now = λ m.
    omega (arith, first (λ k. k == m) n out, are m, changed (has_part m) slots at old v was, ap one (none m), ap one (now m))

-- the URL in a slot has the same, or none as before
pub stays : (out : List ℕ) (slots : List Slot) (at : ℕ) (old v : Slot) → AreOut out slots → slice_get slots at ≡ Some old → ((m : ℕ) → has_part m v ≡ has_part m old)
    → AreOut out (slice_set slots at v)
stays out slots at old v are was same = λ m. omega (arith, are m, changed (has_part m) slots at old v was, ap one (same m))

counts : (out : List ℕ) (slots : List Slot) (at n : ℕ) (old : Slot) → AreOut out slots → slice_get slots at ≡ Some old → has_part n old ≡ true → 1 ≤ count_by (λ k. k == n) out
counts out slots at n old are was has = omega (arith, are n, changed (has_part n) slots at old slot.Free was, ap one has)

-- the part of the URL in a slot came back
pub came_back : (out now : List ℕ) (slots : List Slot) (at n : ℕ) (old v : Slot) → AreOut out slots → slice_get slots at ≡ Some old → has_part n old ≡ true
    → ((m : ℕ) → has_part m v ≡ false) → now ≡ without n out → AreOut now (slice_set slots at v)
came_back out now slots at n old v are was has none is = λ m.
    omega (
      arith,
      ap (λ l. count_by (λ k. k == m) l) is,
      without_count n m out (counts out slots at n old are was has),
      are m,
      changed (has_part m) slots at old v was,
      ap one (none m),
      ap one (part_is old n m has),
    )

pub is_out : (out : List ℕ) (slots : List Slot) (at n : ℕ) (old : Slot) → AreOut out slots → slice_get slots at ≡ Some old → has_part n old ≡ true → Contains out n
is_out out slots at n old are was has = among n out (counts out slots at n old are was has)

-- where no slot is taken none has a part
partless : (n : ℕ) (slots : List Slot) → count_by is_taken slots ≡ 0 → count_by (has_part n) slots ≡ 0
partless n [] none = refl
partless n (slot.Free ∷ ss) none = let h = partless n ss (omega (arith, none, first is_taken slot.Free ss)) in omega (arith, first (has_part n) slot.Free ss, h)
partless n (slot.Waiting job ∷ ss) none = absurd (omega (arith, none, first is_taken (slot.Waiting job) ss))
partless n (slot.Open job k ∷ ss) none = absurd (omega (arith, none, first is_taken (slot.Open job k) ss))
partless n (slot.Added job ticket k ∷ ss) none = absurd (omega (arith, none, first is_taken (slot.Added job ticket k) ss))

pub none_out : (out : List ℕ) (slots : List Slot) → AreOut out slots → count_by is_taken slots ≡ 0 → out ≡ []
none_out [] slots are none = refl
none_out (n ∷ out) slots are none = absurd (omega (arith, are n, first (λ k. k == n) n out, ap one (is_itself n), partless n slots none))

-- a run begins
pub begins : (out : List ℕ) (slots : List Slot) → out ≡ [] → AllByRecursion (λ s. s ≡ slot.Free) slots → AreOut out slots
begins out slots none free = λ m. ap (λ l. count_by (λ k. k == m) l) none ∙ sym (partless m slots (fresh_count slots free))
