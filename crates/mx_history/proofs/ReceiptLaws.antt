-- Receipts and the journal.
use Rattle.std.proofs.Common.{◌≡◌, ℕ, ◌+◌, ◌-◌, ◌<◌, ◌≤◌, ◌∙◌, sym, refl, ap, subst, List, [], ◌∷◌, length, Bool, true, false, cond, arith, inl, inr, zero-add}
use Rattle.std.specs.Prelude.{zero, suc, take, drop, slice_get, Option, Some}
use Rattle.std.specs.List.{filter_map, cons_option, AllByRecursion}
use Rattle.std.specs.Option.{IsSome, IsSomeAnd}
use Rattle.std.proofs.lemmas.Bool.{cases_eq}
use Rattle.std.proofs.lemmas.List.{take-take}
use Rattle.std.proofs.lemmas.List.Sums.{sum_by-cons}
use Rattle.mx_types.specs.declared.event.Who.{Who}
use Rattle.mx_types.specs.declared.event.Event.{Event}
use Rattle.mx_types.specs.declared.call.Receipt.{Receipt}
use Rattle.mx_history.specs.History.{Opening, same_maker, made_by}
use Rattle.mx_history.specs.Answers.{answer, is_ready}
use Rattle.mx_history.specs.Receipts.{comes_with_event, mark, IsAnsweredWithEvent, CutsRise, with_events, events_of, events_by, IsOfMaker}
use Rattle.mx_history.specs.Laws.{FitsByItsCut, EachOnceByCount}
use Rattle.mx_history.proofs.Lists.{Each-map, Each-both}

-- 1. A receipt fits by its cut.

-- an item below a cut is one of the cut list
get_below : {X : Type 0} (n i : ℕ) (xs : List X) → i < n → slice_get (take n xs) i ≡ slice_get xs i
get_below zero i xs lt = absurd (omega arith)
get_below (suc n) i [] lt = refl
get_below (suc n) zero (x ∷ xs) lt = refl
get_below (suc n) (suc i) (x ∷ xs) lt = get_below n i xs (omega arith)

-- two lists with one prefix agree below it
cut_shorter : {X : Type 0} (m n : ℕ) (xs ys : List X) → m ≤ n → take n xs ≡ take n ys → take m xs ≡ take m ys
cut_shorter m n xs ys le e = sym (take-take m n xs le) ∙ ap (take m) e ∙ take-take m n ys le

cut_get : {X : Type 0} (n i : ℕ) (xs ys : List X) → i < n → take n xs ≡ take n ys → slice_get xs i ≡ slice_get ys i
cut_get n i xs ys lt e = sym (get_below n i xs lt) ∙ ap (λ z. slice_get z i) e ∙ get_below n i ys lt

answered_by_cut : (opening : Opening) (w : Who) (r : Receipt) (j k : List Event) → take r.cut j ≡ take r.cut k → IsAnsweredWithEvent opening w r j → IsAnsweredWithEvent opening w r k
answered_by_cut opening w r j k e a =
    let lt = a.above in
    record {
      event = a.event;
      above = a.above;
      stands = sym (cut_get r.cut (r.cut - 1) j k (omega arith) e) ∙ a.stands;
      answered = ap (λ z. answer opening z r.call) (sym (cut_shorter (r.cut - 1) r.cut j k (omega arith) e)) ∙ a.answered;
    }

pub fits_by_its_cut : FitsByItsCut
fits_by_its_cut opening w earlier r j k e f = record {
  with_event = λ is. answered_by_cut opening w r j k e (f.with_event is);
  no_memory = λ is. subst (λ (z : List Event). IsSome (answer opening z r.call).1) e (f.no_memory is);
  without_event = λ is. f.without_event is ∙ ap (λ z. (answer opening z r.call).0) e;
  ready = λ is. ap (λ z. is_ready (mark opening.from earlier) z) (sym e) ∙ f.ready is;
}

-- 2. Each once, by count. The cuts of receipts are counted from `n` on, the number of events before the list.

-- the events right before the cuts, in a list that n events come before
abbrev events_at : ℕ → List Receipt → List Event → List Event
events_at n rs j = filter_map (λ r. slice_get j (r.cut - 1 - n)) rs

abbrev Above : ℕ → List Receipt → Type 0
Above n rs = AllByRecursion (λ (r : Receipt). n < r.cut) rs

abbrev OfMaker : Who → List Event → ℕ → List Receipt → Type 0
OfMaker w j n rs = AllByRecursion (λ (r : Receipt). IsSomeAnd (slice_get j (r.cut - 1 - n)) (λ e. same_maker e.who w ≡ true)) rs

-- strictly rising cuts, all above n
abbrev Rising : ℕ → List Receipt → Type 0
Rising n [] = Unit {0}
Rising n (r ∷ rs) = (n < r.cut) × Rising r.cut rs

rising_above : (n : ℕ) (rs : List Receipt) → Rising n rs → Above n rs
rising_above n [] h = tt
rising_above n (r ∷ rs) h = (h.0, Each-map (λ (x : Receipt). r.cut < x.cut) (λ (x : Receipt). n < x.cut) (λ x lt. let k = h.0 in omega arith) rs (rising_above r.cut rs h.1))

rising_from : (m n : ℕ) (rs : List Receipt) → m ≤ n → Rising n rs → Rising m rs
rising_from m n [] le h = tt
rising_from m n (r ∷ rs) le h = let k = h.0 in (omega arith, h.1)

get_later : (n : ℕ) (x : Event) (j : List Event) (r : Receipt) → n + 1 < r.cut → slice_get (x ∷ j) (r.cut - 1 - n) ≡ slice_get j (r.cut - 1 - (n + 1))
get_later n x j r lt = let e : r.cut - 1 - n ≡ suc (r.cut - 1 - (n + 1)) = omega arith in ap (slice_get (x ∷ j)) e

maker_later : (w : Who) (n : ℕ) (x : Event) (j : List Event) (rs : List Receipt) → Above (n + 1) rs → OfMaker w (x ∷ j) n rs → OfMaker w j (n + 1) rs
maker_later w n x j rs a o =
    Each-both (λ (r : Receipt). n + 1 < r.cut) (λ (r : Receipt). IsSomeAnd (slice_get (x ∷ j) (r.cut - 1 - n)) (λ e. same_maker e.who w ≡ true))
    (λ (r : Receipt). IsSomeAnd (slice_get j (r.cut - 1 - (n + 1))) (λ e. same_maker e.who w ≡ true))
    (λ r lt h. subst (λ (q : Option Event). IsSomeAnd q (λ e. same_maker e.who w ≡ true)) (get_later n x j r lt) h) rs a o

events_later : (n : ℕ) (x : Event) (j : List Event) (rs : List Receipt) → Above (n + 1) rs → events_at n rs (x ∷ j) ≡ events_at (n + 1) rs j
events_later n x j [] a = refl
events_later n x j (r ∷ rs) a = ap (λ q. cons_option q (events_at n rs (x ∷ j))) (get_later n x j r a.0) ∙ ap (cons_option (slice_get j (r.cut - 1 - (n + 1)))) (events_later n x j rs a.1)

-- no fewer events of the maker than receipts; and where no more, they are the same
abbrev Counted : Who → List Event → ℕ → List Receipt → Type 0
Counted w j n rs = (length rs ≤ made_by w j) × (made_by w j ≤ length rs → events_by w j ≡ events_at n rs j)

made-cons : (w : Who) (x : Event) (j : List Event) → made_by w (x ∷ j) ≡ cond (same_maker x.who w) 1 0 + made_by w j
made-cons w x j = sum_by-cons (λ (e : Event). cond (same_maker e.who w) 1 0) x j

-- the first receipt's event comes later, or there is none
counted_later : (w : Who) (x : Event) (j : List Event) (n : ℕ) (rs : List Receipt) → Above (n + 1) rs → Counted w j (n + 1) rs → Counted w (x ∷ j) n rs
counted_later w x j n rs a c = go (same_maker x.who w) refl where
  go : (b : Bool) → same_maker x.who w ≡ b → Counted w (x ∷ j) n rs
  go true is =
      let le = c.0 in
      let more : made_by w (x ∷ j) ≡ 1 + made_by w j = made-cons w x j ∙ ap (λ b. cond b 1 0 + made_by w j) is in
      (omega arith, λ few. absurd (omega arith))
  go false is =
      let same : made_by w (x ∷ j) ≡ made_by w j = made-cons w x j ∙ ap (λ b. cond b 1 0 + made_by w j) is ∙ zero-add _ in (
        rw same c.0,
        λ few. ap (λ b. cond b (x ∷ events_by w j) (events_by w j)) is ∙ c.1 (rw same at few) ∙ sym (events_later n x j rs a),
      )

-- the first receipt's event is the first one
counted_first : (w : Who) (x : Event) (j : List Event) (n : ℕ) (r : Receipt) (rs : List Receipt) → r.cut ≡ n + 1 → same_maker x.who w ≡ true
    → Above (n + 1) rs → Counted w j (n + 1) rs → Counted w (x ∷ j) n (r ∷ rs)
counted_first w x j n r rs at is a c =
    let le = c.0 in
    let more : made_by w (x ∷ j) ≡ 1 + made_by w j = made-cons w x j ∙ ap (λ b. cond b 1 0 + made_by w j) is in
    let zeroth : r.cut - 1 - n ≡ 0 = omega arith in
    let get : slice_get (x ∷ j) (r.cut - 1 - n) ≡ Some x = ap (slice_get (x ∷ j)) zeroth in (
      omega arith,
      λ few. ap (λ b. cond b (x ∷ events_by w j) (events_by w j)) is ∙ ap (λ z. x ∷ z) (c.1 (omega arith) ∙ sym (events_later n x j rs a))
          ∙ sym (ap (λ q. cons_option q (events_at n rs (x ∷ j))) get),
    )

of_first : (w : Who) (x : Event) (j : List Event) (i : ℕ) → i ≡ 0 → IsSomeAnd (slice_get (x ∷ j) i) (λ e. same_maker e.who w ≡ true) → same_maker x.who w ≡ true
of_first w x j i e h = subst (λ n. IsSomeAnd (slice_get (x ∷ j) n) (λ e. same_maker e.who w ≡ true)) e h

counted : (w : Who) (j : List Event) (n : ℕ) (rs : List Receipt) → Rising n rs → OfMaker w j n rs → Counted w j n rs
counted w [] n [] u o = (omega arith, λ _. refl)
counted w [] n (r ∷ rs) u o = absurd o.0
counted w (x ∷ j) n [] u o = counted_later w x j n [] tt (counted w j (n + 1) [] tt tt)
counted w (x ∷ j) n (r ∷ rs) u o =
    elim (cases_eq r.cut (n + 1)) [
      | inl at ↦ (
          let later : Rising (n + 1) rs = subst (λ m. Rising m rs) at u.1 in
          let a = rising_above (n + 1) rs later in
          counted_first w x j n r rs at (of_first w x j (r.cut - 1 - n) (omega arith) o.0) a (counted w j (n + 1) rs later (maker_later w n x j rs a o.1))
          )
      | inr off ↦ (
          let lt = u.0 in
          let later : Rising (n + 1) (r ∷ rs) = (omega (arith, off, lt), u.1) in
          let a = rising_above (n + 1) (r ∷ rs) later in
          counted_later w x j n (r ∷ rs) a (counted w j (n + 1) (r ∷ rs) later (maker_later w n x j (r ∷ rs) a o))
          )
    ]

-- cuts that rise along receipts that all have an event rise strictly
strictly : (cut : ℕ) (mine : List Receipt) → CutsRise cut (with_events mine) → AllByRecursion (λ (r : Receipt). comes_with_event r.reply ≡ true) (with_events mine) → Rising cut (with_events mine)
strictly cut mine = go cut (with_events mine) where
  go : (cut : ℕ) (rs : List Receipt) → CutsRise cut rs → AllByRecursion (λ (r : Receipt). comes_with_event r.reply ≡ true) rs → Rising cut rs
  go cut [] c a = tt
  go cut (r ∷ rs) c a = (c.1 a.0, go r.cut rs c.2 a.1)

all_with : (mine : List Receipt) → AllByRecursion (λ (r : Receipt). comes_with_event r.reply ≡ true) (with_events mine)
all_with [] = tt
all_with (r ∷ mine) = go (comes_with_event r.reply) refl (all_with mine) where
  go : (b : Bool) → comes_with_event r.reply ≡ b → AllByRecursion (λ (x : Receipt). comes_with_event x.reply ≡ true) (with_events mine)
      → AllByRecursion (λ (x : Receipt). comes_with_event x.reply ≡ true) (cond b (r ∷ with_events mine) (with_events mine))
  go true is a = (is, a)
  go false is a = a

-- the event right before a cut, in the list from a place below the cut on
get_dropped : (n i : ℕ) (j : List Event) → slice_get (drop n j) i ≡ slice_get j (n + i)
get_dropped zero i j = ap (slice_get j) (sym (zero-add i))
get_dropped (suc n) i [] = refl
get_dropped (suc n) i (x ∷ j) = get_dropped n i j ∙ ap (slice_get (x ∷ j)) (let e : suc (n + i) ≡ suc n + i = omega arith in e)

get_at : (from : ℕ) (j : List Event) (r : Receipt) → from < r.cut → slice_get (drop from j) (r.cut - 1 - from) ≡ slice_get j (r.cut - 1)
get_at from j r lt = get_dropped from (r.cut - 1 - from) j ∙ ap (slice_get j) (let e : from + (r.cut - 1 - from) ≡ r.cut - 1 = omega arith in e)

events_from : (from : ℕ) (j : List Event) (rs : List Receipt) → Above from rs → events_at from rs (drop from j) ≡ events_of rs j
events_from from j [] a = refl
events_from from j (r ∷ rs) a = ap (λ q. cons_option q (events_at from rs (drop from j))) (get_at from j r a.0) ∙ ap (cons_option (slice_get j (r.cut - 1))) (events_from from j rs a.1)

pub each_once_by_count : EachOnceByCount
each_once_by_count from w mine j c o count =
    let rs = with_events mine in
    let up = strictly from mine c (all_with mine) in
    let above = rising_above from rs up in
    let of : OfMaker w (drop from j) from rs = Each-both (λ (r : Receipt). from < r.cut) (IsOfMaker w j) (λ (r : Receipt). IsSomeAnd (slice_get (drop from j) (r.cut - 1 - from)) (λ e. same_maker e.who w ≡ true))
    (λ r lt h. subst (λ (q : Option Event). IsSomeAnd q (λ e. same_maker e.who w ≡ true)) (sym (get_at from j r lt)) h) rs above o in
    let k = counted w (drop from j) from rs up of in
    k.1 (omega (arith, count)) ∙ events_from from j rs above
