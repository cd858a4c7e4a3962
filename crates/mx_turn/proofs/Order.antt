-- What keeps a list of deadlines in order.
use Rattle.std.proofs.Common.{◌≡◌, ℕ, zero, suc, ◌+◌, ◌<◌, ◌≤◌, ◌==◌, length, map, take, Bool, true, false, cond, List, [], ◌∷◌, refl, sym, ◌∙◌, ap, subst, arith}
use Rattle.std.specs.List.{AllByRecursion, filter, insert, count_by}
use Rattle.std.proofs.lemmas.Bool.Decides.{nat_tests}
use Rattle.std.proofs.lemmas.List.Elements.{filter_passes, recursion_from_All}
use Rattle.std.proofs.lemmas.List.{length-map, length-take}
use Rattle.std.proofs.lemmas.List.Sums.{sum_by-cons, length-filter, count_by-le-length}
use Rattle.mx_turn.specs.declared.deadlines.Deadline.{Deadline}
use Rattle.mx_turn.specs.InOrder.{is_before, Precedes, IsInOrder, is_other, others, is_due, due_at}

pub is_before-trans : (d e f : Deadline) → is_before d e ≡ true → is_before e f ≡ true → is_before d f ≡ true
is_before-trans d e f de ef = grind (arith, nat_tests)

-- of two tickets' deadlines one comes first
pub is_before-other : (d e : Deadline) → is_before d e ≡ false → is_other d.ticket e ≡ true → is_before e d ≡ true
is_before-other d e de other = grind (arith, nat_tests)

pub other-back : (d e : Deadline) → is_other d.ticket e ≡ true → is_other e.ticket d ≡ true
other-back d e other = grind (arith, nat_tests)

pub other-sym : (d e : Deadline) → is_other d.ticket e ≡ true → (d.ticket.0 == e.ticket.0) ≡ false
other-sym d e other = grind (arith, nat_tests)

pub other-is : (d e : Deadline) → is_other d.ticket e ≡ true → (e.ticket.0 == d.ticket.0) ≡ false
other-is d e other = grind (arith, nat_tests)

-- what holds of each element holds of each that passes a test
AllByRecursion-filter : {X : Type 0} (P : X → Type 0) (p : X → Bool) (xs : List X) → AllByRecursion P xs → AllByRecursion P (filter p xs)
AllByRecursion-filter P p [] h = h
AllByRecursion-filter P p (x ∷ xs) h =
    elim (p x) as (λ b. AllByRecursion P (cond b (x ∷ filter p xs) (filter p xs))) [
      | true ↦ (h.0, AllByRecursion-filter P p xs h.1)
      | false ↦ AllByRecursion-filter P p xs h.1
    ]

pub IsInOrder-filter : (p : Deadline → Bool) (ds : List Deadline) → IsInOrder ds → IsInOrder (filter p ds)
IsInOrder-filter p [] h = h
IsInOrder-filter p (d ∷ ds) h =
    elim (p d) as (λ b. IsInOrder (cond b (d ∷ filter p ds) (filter p ds))) [
      | true ↦ (AllByRecursion-filter (Precedes d) p ds h.0, IsInOrder-filter p ds h.1)
      | false ↦ IsInOrder-filter p ds h.1
    ]

-- what holds of x and of each element holds of each once x is among them
AllByRecursion-insert : {X : Type 0} (P : X → Type 0) (xs : List X) (i : ℕ) (x : X) → P x → AllByRecursion P xs → AllByRecursion P (insert xs i x)
AllByRecursion-insert P xs zero x h all = (h, all)
AllByRecursion-insert P [] (suc i) x h all = (h, all)
AllByRecursion-insert P (y ∷ ys) (suc i) x h all = (all.0, AllByRecursion-insert P ys i x h all.1)

-- where one fact gives another, so it does of each element
AllByRecursion-map : {X : Type 0} (P Q R : X → Type 0) → ((x : X) → P x → Q x → R x) → (xs : List X) → AllByRecursion P xs → AllByRecursion Q xs → AllByRecursion R xs
AllByRecursion-map P Q R f [] p q = tt
AllByRecursion-map P Q R f (x ∷ xs) p q = (f x p.0 q.0, AllByRecursion-map P Q R f xs p.1 q.1)

count_by-none : {X : Type 0} (p : X → Bool) (xs : List X) → AllByRecursion (λ x. p x ≡ false) xs → count_by p xs ≡ 0
count_by-none p [] h = refl
count_by-none p (x ∷ xs) h = rw (h.0, count_by-none p xs h.1) refl

-- the place of d in the list
abbrev place : Deadline → List Deadline → ℕ
place d ds = count_by (λ e. is_before e d) ds

-- What comes after one that d comes before isn't before d.
not_before : (d e f : Deadline) → is_before d e ≡ true → is_before e f ≡ true → is_before f d ≡ false
not_before d e f de ef = grind (arith, nat_tests)

precedes_rest : (d e : Deadline) → is_before d e ≡ true → (ds : List Deadline) → AllByRecursion (Precedes e) ds → AllByRecursion (λ f. is_other d.ticket f ≡ true) ds → AllByRecursion (Precedes d) ds
precedes_rest d e de ds after others = AllByRecursion-map (Precedes e) (λ f. is_other d.ticket f ≡ true) (Precedes d) (λ f p o. record { before = is_before-trans d e f de p.before; other = other-sym d f o }) ds after others

none_before : (d e : Deadline) → is_before d e ≡ true → (ds : List Deadline) → AllByRecursion (Precedes e) ds → place d ds ≡ 0
none_before d e de ds after = count_by-none (λ f. is_before f d) ds (AllByRecursion-map (Precedes e) (Precedes e) (λ f. is_before f d ≡ false) (λ f p _. not_before d e f de p.before) ds after after)

-- one step of the lemma below it: where the first deadline comes before d, and where it doesn't
insert_by : (b : Bool) (d e : Deadline) (ds : List Deadline) → is_before e d ≡ b → IsInOrder (e ∷ ds) → AllByRecursion (λ f. is_other d.ticket f ≡ true) (e ∷ ds) → IsInOrder (insert ds (place d ds) d) → IsInOrder (insert (e ∷ ds) (cond b 1 0 + place d ds) d)
insert_by true d e ds is h others rest =
    let next : 1 + place d ds ≡ suc (place d ds) = omega arith in
    let first : Precedes e d = record { before = is; other = other-is d e others.0 } in
    subst (λ n. IsInOrder (insert (e ∷ ds) n d)) (sym next) (AllByRecursion-insert (Precedes e) ds (place d ds) d first h.0, rest)
insert_by false d e ds is h others rest =
    let before : is_before d e ≡ true = is_before-other e d is (other-back d e others.0) in
    let none : 0 + place d ds ≡ 0 = omega (arith, none_before d e before ds h.0) in
    let first : Precedes d e = record { before = before; other = other-sym d e others.0 } in
    subst (λ n. IsInOrder (insert (e ∷ ds) n d)) (sym none) ((first, precedes_rest d e before ds h.0 others.1), h)

-- a deadline of another ticket, put after those that come before it
pub IsInOrder-insert : (d : Deadline) (ds : List Deadline) → IsInOrder ds → AllByRecursion (λ e. is_other d.ticket e ≡ true) ds → IsInOrder (insert ds (count_by (λ e. is_before e d) ds) d)
IsInOrder-insert d [] h others = (tt, tt)
IsInOrder-insert d (e ∷ ds) h others =
    subst (λ n. IsInOrder (insert (e ∷ ds) n d)) (sym (sum_by-cons (λ f. cond (is_before f d) 1 0) e ds))
    (insert_by (is_before e d) d e ds refl h others (IsInOrder-insert d ds h.1 others.1))

-- at most i of the first i are due
pub due-length : (ds : List Deadline) (now i : ℕ) → i < length ds → length (map (λ (d : Deadline). d.ticket) (due_at (take i ds) now)) ≤ i
due-length ds now i within =
    let first = take i ds in
    omega (arith, length-map (due_at first now) (λ (d : Deadline). d.ticket), length-filter (is_due now) first, count_by-le-length (is_due now) first, length-take i ds)

-- the other tickets' deadlines with this one put in its place
pub set-in_order : (d : Deadline) (old rest new : List Deadline) (at : ℕ) → IsInOrder rest → rest ≡ others d.ticket old → at ≡ count_by (λ e. is_before e d) rest → new ≡ insert rest at d → IsInOrder new
set-in_order d old rest new at ordered is_rest is_at is_new =
    let passes = is_other d.ticket in
    let others = subst (λ ds. AllByRecursion (λ e. passes e ≡ true) ds) (sym is_rest) (recursion_from_All (λ e. passes e ≡ true) (filter passes old) (filter_passes passes old)) in
    subst IsInOrder (sym (is_new ∙ ap (λ n. insert rest n d) is_at)) (IsInOrder-insert d rest ordered others)

-- there is room where fewer deadlines of other tickets are set
pub others-few : (d : Deadline) (old rest : List Deadline) (most : ℕ) → rest ≡ others d.ticket old → count_by (is_other d.ticket) old < most → length rest < most
others-few d old rest most is_rest few =
    let passes = is_other d.ticket in
    let room : length (filter passes old) < most = omega (arith, length-filter passes old) in
    subst (λ ds. length ds < most) (sym is_rest) room
