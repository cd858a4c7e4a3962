-- One more in a list that is in order, and the first of it.
use Rattle.std.proofs.Common.{◌≡◌, ℕ, zero, suc, ◌+◌, ◌<◌, ◌≤◌, Bool, true, false, cond, List, [], ◌∷◌, ◌++◌, refl, sym, ap, subst, nat_le, arith}
use Rattle.std.specs.Prelude.{Option, Some, None}
use Rattle.std.specs.List.{AllByRecursion, insert, remove, count_by, slice_get}
use Rattle.std.proofs.lemmas.Bool.Decides.{nat_tests}
use Rattle.std.proofs.lemmas.List.Sums.{sum_by-cons}
use Rattle.mx_save_rules.specs.declared.waiting.Wait.{Wait}
use Rattle.mx_save_rules.specs.Waits.{IsInOrder, Adds, PopsDue}

-- how many wait until that moment or an earlier one
abbrev pub place : ℕ → List Wait → ℕ
place moment ws = count_by (λ w. nat_le w.moment moment) ws

-- one fact of each element gives another
all_so : (P Q : Wait → Type 0) → ((w : Wait) → P w → Q w) → (ws : List Wait) → AllByRecursion P ws → AllByRecursion Q ws
all_so P Q f [] h = tt
all_so P Q f (w ∷ ws) h = (f w h.0, all_so P Q f ws h.1)

none_in_time : (moment : ℕ) (ws : List Wait) → AllByRecursion (λ v. moment < v.moment) ws → place moment ws ≡ 0
none_in_time moment [] h = refl
none_in_time moment (w ∷ ws) h =
    let late : nat_le w.moment moment ≡ false = let after = h.0 in grind (arith, nat_tests) in
    let counts = sum_by-cons (λ v. cond (nat_le v.moment moment) 1 0) w ws in
    let zero_one : Bool → ℕ = λ b. cond b 1 0 in
    let first : zero_one (nat_le w.moment moment) ≡ 0 = ap zero_one late in
    omega (arith, counts, first, none_in_time moment ws h.1)

-- all that follow a later one are later
late_rest : (moment : ℕ) (w : Wait) (ws : List Wait) → moment < w.moment → AllByRecursion (λ v. w.moment ≤ v.moment) ws → AllByRecursion (λ v. moment < v.moment) ws
late_rest moment w ws late after = all_so (λ v. w.moment ≤ v.moment) (λ v. moment < v.moment) (λ v h. omega arith) ws after

insert_all : (P : Wait → Type 0) (ws : List Wait) (i : ℕ) (x : Wait) → P x → AllByRecursion P ws → AllByRecursion P (insert ws i x)
insert_all P ws zero x h all = (h, all)
insert_all P [] (suc i) x h all = (h, all)
insert_all P (w ∷ ws) (suc i) x h all = (all.0, insert_all P ws i x h all.1)

-- what an insertion at that place is
record Inserted (x : Wait) (ws : List Wait) (i : ℕ) : Type 0 where
  adds : Adds ws (insert ws i x) x
  ordered : IsInOrder (insert ws i x)

by_first : (b : Bool) (x w : Wait) (ws : List Wait) → nat_le w.moment x.moment ≡ b → IsInOrder (w ∷ ws) → Inserted x ws (place x.moment ws)
    → Inserted x (w ∷ ws) (cond b 1 0 + place x.moment ws)
by_first true x w ws is h rest =
    let next : 1 + place x.moment ws ≡ suc (place x.moment ws) = omega arith in
    let early : w.moment ≤ x.moment = grind (arith, nat_tests) in
    subst (Inserted x (w ∷ ws)) (sym next) (
    record {
      adds = record {
        earlier = w ∷ rest.adds.earlier;
        later = rest.adds.later;
        kept = ap (λ vs. w ∷ vs) rest.adds.kept;
        is = ap (λ vs. w ∷ vs) rest.adds.is;
        before = (early, rest.adds.before);
        behind = rest.adds.behind;
      };
      ordered = (insert_all (λ v. w.moment ≤ v.moment) ws (place x.moment ws) x early h.0, rest.ordered);
    }
    )
by_first false x w ws is h rest =
    let late : x.moment < w.moment = grind (arith, nat_tests) in
    let behind = late_rest x.moment w ws late h.0 in
    let none : 0 + place x.moment ws ≡ 0 = omega (arith, none_in_time x.moment ws behind) in
    subst (Inserted x (w ∷ ws)) (sym none) (
    record {
      adds = record { earlier = []; later = w ∷ ws; kept = refl; is = refl; before = tt; behind = (late, behind) };
      ordered = ((omega arith, all_so (λ v. x.moment < v.moment) (λ v. x.moment ≤ v.moment) (λ v k. omega arith) ws behind), h);
    }
    )

inserted : (x : Wait) (ws : List Wait) → IsInOrder ws → Inserted x ws (place x.moment ws)
inserted x [] h = record { adds = record { earlier = []; later = []; kept = refl; is = refl; before = tt; behind = tt }; ordered = (tt, tt) }
inserted x (w ∷ ws) h =
    subst (Inserted x (w ∷ ws)) (sym (sum_by-cons (λ v. cond (nat_le v.moment x.moment) 1 0) w ws))
    (by_first (nat_le w.moment x.moment) x w ws refl h (inserted x ws h.1))

pub adds_at : (x : Wait) (old new : List Wait) (at : ℕ) → IsInOrder old → at ≡ place x.moment old → new ≡ insert old at x → Adds old new x
adds_at x old new at h is_at is_new =
    subst (λ ws. Adds old ws x) (sym is_new) (subst (λ i. Adds old (insert old i x) x) (sym is_at) (inserted x old h).adds)

pub ordered_at : (x : Wait) (old new : List Wait) (at : ℕ) → IsInOrder old → at ≡ place x.moment old → new ≡ insert old at x → IsInOrder new
ordered_at x old new at h is_at is_new =
    subst IsInOrder (sym is_new) (subst (λ i. IsInOrder (insert old i x)) (sym is_at) (inserted x old h).ordered)

-- where there is no first, or the first is late, all are
pub none_late : (now : ℕ) (ws : List Wait) → slice_get ws 0 ≡ None → AllByRecursion (λ w. now < w.moment) ws
none_late now [] at = tt
none_late now (w ∷ ws) at = absurd (cc)

pub all_late : (now : ℕ) (ws : List Wait) (first : Wait) → IsInOrder ws → slice_get ws 0 ≡ Some first → now < first.moment
    → AllByRecursion (λ w. now < w.moment) ws
all_late now [] first h at late = absurd (cc)
all_late now (w ∷ ws) first h at late =
    let same : w ≡ first = cc in
    let late_one : now < w.moment = subst (λ (v : Wait). now < v.moment) (sym same) late in
    (late_one, late_rest now w ws late_one h.0)

-- the first taken out
pub popped : (now : ℕ) (ws : List Wait) (first : Wait) → slice_get ws 0 ≡ Some first → first.moment ≤ now → PopsDue now ws (Some first.job) (remove ws 0)
popped now [] first at due = absurd (cc)
popped now (w ∷ ws) first at due =
    let same : w ≡ first = cc in
    (first.moment, due, ap (λ v. v ∷ ws) same)

pub ordered_rest : (ws : List Wait) → IsInOrder ws → IsInOrder (remove ws 0)
ordered_rest [] h = tt
ordered_rest (w ∷ ws) h = h.1
