-- What keeps a table one.
use Rattle.std.proofs.Common.{◌≡◌, ℕ, zero, suc, ◌+◌, ◌<◌, ◌≤◌, length, take, drop, get_or, Bool, true, false, not, cond, ◌&&◌, List, [], ◌∷◌, ◌++◌, refl, sym, ◌∙◌, ap, subst, arith}
use Rattle.std.specs.Prelude.{Option, Some, None, Ok, Err, bytes_eq, count_by}
use Rattle.std.specs.List.{AllByRecursion, filter, find, position, position_from}
use Rattle.std.specs.Option.{is_none}
use Rattle.std.proofs.Math.ListN.{set}
use Rattle.std.proofs.lemmas.List.{take-append-drop}
use Rattle.std.proofs.lemmas.List.Sums.{sum_by-cons, sum_by-append}
use Rattle.std.proofs.lemmas.List.Quantifiers.{position-Some}
use Rattle.std.proofs.lemmas.Slice.Eq.{bytes_eq-Decides}
use Rattle.std.proofs.lemmas.Iterator.Adapters.{position_from-zero}
use Rattle.std.proofs.Math.Seq.{drop-cons}
use Rattle.mx_names.specs.declared.entry.Learnt.{Learnt}
use Rattle.mx_names.specs.declared.answer.HostAnswer.TheVariants as answers
use Rattle.mx_names.specs.Names.{Outcome, Gives, HostState, is_of, is_under_way, is_kept, stays, begun, most_lookups, IsDistinct, IsTable, IsLearnt, IsOutcome, IsTrueOf, Learns, HasNone, SpellsNone, tells, told, told_by, answer_of}

equal_bytes : (xs ys : List ℕ) → bytes_eq xs ys ≡ true → xs ≡ ys
equal_bytes xs ys is = (bytes_eq-Decides xs ys).0 is

both_first : (a b : Bool) → (a && b) ≡ true → a ≡ true
both_first true b is = refl
both_first false b is = absurd cc

both_second : (a b : Bool) → (a && b) ≡ true → b ≡ true
both_second true b is = is
both_second false b is = absurd cc

nothing_is : (learnt : Option Learnt) → is_none learnt ≡ true → learnt ≡ None
nothing_is None is = refl
nothing_is (Some learnt) is = absurd cc

at_most_one : (b : Bool) → cond b 1 0 ≤ 1
at_most_one true = omega arith
at_most_one false = omega arith

one_more : {X : Type 0} (q : X → Bool) (xs : List X) (x : X) → count_by q (xs ++ x ∷ []) ≤ count_by q xs + 1
one_more q xs x =
    let one : cond (q x) 1 0 ≤ 1 = at_most_one (q x) in
    omega (arith, one, sum_by-append (λ y. cond (q y) 1 0) xs (x ∷ []), sum_by-cons (λ y. cond (q y) 1 0) x [])

split_set : {X : Type 0} (xs : List X) (i : ℕ) (y : X) → i < length xs → set xs i y ≡ take i xs ++ y ∷ drop (suc i) xs
split_set [] i y within = absurd (omega arith)
split_set (x ∷ xs) zero y within = refl
split_set (x ∷ xs) (suc i) y within = ap (λ rest. x ∷ rest) (split_set xs i y (omega arith))

told_outcome : (gives : Gives) (host : List ℕ) (outcome : Outcome) → IsOutcome gives host outcome → IsTrueOf gives host (answer_of outcome)
told_outcome gives host (Ok addresses) h = h
told_outcome gives host (Err failed) h = h

told_learnt : (gives : Gives) (host : List ℕ) (since now : ℕ) (learnt : Option Learnt) → IsLearnt gives host learnt → IsTrueOf gives host (told_by since now learnt)
told_learnt gives host since now None h = tt
told_learnt gives host since now (Some learnt) h =
    elim (tells since now learnt) as (λ b. IsTrueOf gives host (cond b (answer_of learnt.outcome) answers.NotYet)) [
      | true ↦ told_outcome gives host learnt.outcome h
      | false ↦ tt
    ]

told_true_by : (gives : Gives) (host : List ℕ) (since now : ℕ) (s : HostState) (ss : List HostState) (b : Bool) → is_of host s ≡ b → IsLearnt gives s.host s.learnt
    → IsTrueOf gives host (told since now (find (is_of host) ss)) → IsTrueOf gives host (told since now (cond b (Some s) (find (is_of host) ss)))
told_true_by gives host since now s ss true is h rest =
    told_learnt gives host since now s.learnt (subst (λ name. IsLearnt gives name s.learnt) (equal_bytes s.host host is) h)
told_true_by gives host since now s ss false is h rest = rest

all_filter : {X : Type 0} (P : X → Type 0) (p : X → Bool) (xs : List X) → AllByRecursion P xs → AllByRecursion P (filter p xs)
all_filter P p [] h = h
all_filter P p (x ∷ xs) h =
    elim (p x) as (λ b. AllByRecursion P (cond b (x ∷ filter p xs) (filter p xs))) [
      | true ↦ (h.0, all_filter P p xs h.1)
      | false ↦ all_filter P p xs h.1
    ]

all_last : {X : Type 0} (P : X → Type 0) (xs : List X) (x : X) → AllByRecursion P xs → P x → AllByRecursion P (xs ++ x ∷ [])
all_last P [] x h last = (last, tt)
all_last P (y ∷ ys) x h last = (h.0, all_last P ys x h.1 last)

-- one element in place of another
all_in_place : {X : Type 0} (P : X → Type 0) (front : List X) (a b : X) (back : List X) → (P a → P b) → AllByRecursion P (front ++ a ∷ back) → AllByRecursion P (front ++ b ∷ back)
all_in_place P [] a b back f h = (f h.0, h.1)
all_in_place P (x ∷ xs) a b back f h = (h.0, all_in_place P xs a b back f h.1)

distinct_filter : (p : HostState → Bool) (states : List HostState) → IsDistinct states → IsDistinct (filter p states)
distinct_filter p [] h = h
distinct_filter p (s ∷ ss) h =
    elim (p s) as (λ b. IsDistinct (cond b (s ∷ filter p ss) (filter p ss))) [
      | true ↦ (all_filter (λ later. is_of later.host s ≡ false) p ss h.0, distinct_filter p ss h.1)
      | false ↦ distinct_filter p ss h.1
    ]

distinct_last : (states : List HostState) (new : HostState) → AllByRecursion (λ state. is_of new.host state ≡ false) states → IsDistinct states → IsDistinct (states ++ new ∷ [])
distinct_last [] new others h = (tt, tt)
distinct_last (s ∷ ss) new others h = (all_last (λ later. is_of later.host s ≡ false) ss new h.0 others.0, distinct_last ss new others.1 h.1)

distinct_in_place : (front : List HostState) (a b : HostState) (back : List HostState) → a.host ≡ b.host → IsDistinct (front ++ a ∷ back) → IsDistinct (front ++ b ∷ back)
distinct_in_place [] a b back same h = (subst (λ host. AllByRecursion (λ (later : HostState). bytes_eq host later.host ≡ false) back) same h.0, h.1)
distinct_in_place (s ∷ ss) a b back same h =
    (all_in_place (λ later. is_of later.host s ≡ false) ss a b back (λ is. subst (λ host. bytes_eq s.host host ≡ false) same is) h.0, distinct_in_place ss a b back same h.1)

-- what stays is of another host
other_stays : (of kept : Bool) → (not of && kept) ≡ true → of ≡ false
other_stays true kept is = absurd cc
other_stays false kept is = refl

others_by : (host : List ℕ) (now : ℕ) (s : HostState) (rest : List HostState) (b : Bool) → stays host now s ≡ b
    → AllByRecursion (λ state. is_of host state ≡ false) rest → AllByRecursion (λ state. is_of host state ≡ false) (cond b (s ∷ rest) rest)
others_by host now s rest true is h = (other_stays (is_of host s) (is_kept now s.learnt) is, h)
others_by host now s rest false is h = h

others_stay : (host : List ℕ) (now : ℕ) (states : List HostState) → AllByRecursion (λ state. is_of host state ≡ false) (filter (stays host now) states)
others_stay host now [] = tt
others_stay host now (s ∷ ss) = others_by host now s (filter (stays host now) ss) (stays host now s) refl (others_stay host now ss)

-- how many pass a test, of those that pass another
count_by_filter_cons : {X : Type 0} (q : X → Bool) (x : X) (rest xs : List X) (b : Bool) → count_by q rest ≤ count_by q xs → count_by q (cond b (x ∷ rest) rest) ≤ count_by q (x ∷ xs)
count_by_filter_cons q x rest xs true h = omega (arith, sum_by-cons (λ y. cond (q y) 1 0) x rest, sum_by-cons (λ y. cond (q y) 1 0) x xs)
count_by_filter_cons q x rest xs false h = omega (arith, sum_by-cons (λ y. cond (q y) 1 0) x xs)

count_by_filter : {X : Type 0} (q p : X → Bool) (xs : List X) → count_by q (filter p xs) ≤ count_by q xs
count_by_filter q p [] = omega arith
count_by_filter q p (x ∷ xs) = count_by_filter_cons q x (filter p xs) xs (p x) (count_by_filter q p xs)

-- The table where a lookup of the host has begun.
pub begun_table : (gives : Gives) (host : List ℕ) (now : ℕ) (states : List HostState) → IsTable gives states → count_by is_under_way states < most_lookups → SpellsNone host → IsTable gives (begun host now states)
begun_table gives host now states table few name =
    let new : HostState = record { host = host; learnt = None } in
    let stay = filter (stays host now) states in
    let count : count_by is_under_way stay ≤ count_by is_under_way states = count_by_filter is_under_way (stays host now) states in
    record {
      one = distinct_last stay new (others_stay host now states) (distinct_filter (stays host now) states table.one);
      few = omega (arith, few, count, one_more is_under_way stay new);
      names = all_last (λ (state : HostState). SpellsNone state.host) stay new (all_filter (λ (state : HostState). SpellsNone state.host) (stays host now) states table.names) name;
      true_to = all_last (λ (state : HostState). IsLearnt gives state.host state.learnt) stay new (all_filter (λ (state : HostState). IsLearnt gives state.host state.learnt) (stays host now) states table.true_to) tt;
    }

-- one that passes no test in place of another: no more pass it
fewer_in_place : {X : Type 0} (q : X → Bool) (front : List X) (a b : X) (back : List X) → q b ≡ false → count_by q (front ++ b ∷ back) ≤ count_by q (front ++ a ∷ back)
fewer_in_place q [] a b back none =
    let nought : ℕ = 0 in
    let none_of : cond (q b) 1 0 ≡ nought = ap (λ c. cond c 1 nought) none in
    omega (arith, none_of, sum_by-cons (λ y. cond (q y) 1 0) b back, sum_by-cons (λ y. cond (q y) 1 0) a back)
fewer_in_place q (x ∷ xs) a b back none =
    omega (arith, fewer_in_place q xs a b back none, sum_by-cons (λ y. cond (q y) 1 0) x (xs ++ b ∷ back), sum_by-cons (λ y. cond (q y) 1 0) x (xs ++ a ∷ back))

-- The table where an outcome of the host was learnt.
pub learns_table : (gives : Gives) (host : List ℕ) (outcome : Outcome) (moment : ℕ) (old new : List HostState) → IsOutcome gives host outcome → Learns host outcome moment old new → IsTable gives old → IsTable gives new
learns_table gives host outcome moment old new true_of learns table =
    let a : HostState = record { host = host; learnt = None } in
    let b : HostState = record { host = host; learnt = Some (record { outcome = outcome; moment = moment }) } in
    let front = learns.earlier in
    let back = learns.later in
    let was : IsTable gives (front ++ a ∷ back) = subst (IsTable gives) learns.was table in
    subst (IsTable gives) (sym learns.is) (record {
      one = distinct_in_place front a b back refl was.one;
      few = omega (arith, was.few, fewer_in_place is_under_way front a b back refl);
      names = all_in_place (λ (state : HostState). SpellsNone state.host) front a b back (λ h. h) was.names;
      true_to = all_in_place (λ (state : HostState). IsLearnt gives state.host state.learnt) front a b back (λ h. true_of) was.true_to;
    })

-- it is of the host and under way, so it is this
of_and_under_way : (host : List ℕ) (state : HostState) → (is_of host state && is_under_way state) ≡ true → state ≡ record { host = host; learnt = None }
of_and_under_way host state is =
    let of : is_of host state ≡ true = both_first (is_of host state) (is_under_way state) is in
    let none : is_none state.learnt ≡ true = both_second (is_of host state) (is_under_way state) is in
    let same : state.host ≡ host = equal_bytes state.host host of in
    let nothing : state.learnt ≡ None = nothing_is state.learnt none in
    λ i. record { host = same i; learnt = nothing i }

-- The entry at the place of a lookup that is under way was replaced.
pub learns_at : (host : List ℕ) (outcome : Outcome) (moment : ℕ) (old new : List HostState) (place : ℕ) (d : HostState)
    → position (λ state. is_of host state && is_under_way state) old ≡ Some place
    → new ≡ set old place (record { host = (get_or old place d).host; learnt = Some (record { outcome = outcome; moment = moment }) })
    → Learns host outcome moment old new
learns_at host outcome moment old new place d at is_new =
    let found = position-Some (λ (state : HostState). is_of host state && is_under_way state) old place d at in
    let was = of_and_under_way host (get_or old place d) found.1 in
    let y : HostState = record { host = (get_or old place d).host; learnt = Some (record { outcome = outcome; moment = moment }) } in
    let z : HostState = record { host = host; learnt = Some (record { outcome = outcome; moment = moment }) } in
    let same : y ≡ z = λ i. record { host = (was i).host; learnt = Some (record { outcome = outcome; moment = moment }) } in
    let rest : drop place old ≡ record { host = host; learnt = None } ∷ drop (suc place) old = drop-cons old place d found.0 ∙ ap (λ state. state ∷ drop (suc place) old) was in
    record {
      earlier = take place old;
      later = drop (suc place) old;
      was = sym (take-append-drop place old) ∙ ap (λ back. take place old ++ back) rest;
      is = is_new ∙ split_set old place y found.0 ∙ ap (λ state. take place old ++ state ∷ drop (suc place) old) same;
    }

none_by : {X : Type 0} (t : X → Bool) (x : X) (i : ℕ) (rest : Option ℕ) (P : Type 0) (b : Bool) → t x ≡ b → cond b (Some i) rest ≡ None → (rest ≡ None → P) → (t x ≡ false) × P
none_by t x i rest P true is none f = absurd cc
none_by t x i rest P false is none f = (is, f none)

none_from : {X : Type 0} (t : X → Bool) (i : ℕ) (xs : List X) → position_from t i xs ≡ None → AllByRecursion (λ x. t x ≡ false) xs
none_from t i [] none = tt
none_from t i (x ∷ xs) none = none_by t x i (position_from t (i + 1) xs) (AllByRecursion (λ y. t y ≡ false) xs) (t x) refl none (none_from t (i + 1) xs)

pub has_none : (host : List ℕ) (states : List HostState) → position (λ state. is_of host state && is_under_way state) states ≡ None → HasNone host states
has_none host states none =
    let p : HostState → Bool = λ state. is_of host state && is_under_way state in
    none_from p 0 states (sym (position_from-zero p states) ∙ none)

pub place_within : (host : List ℕ) (states : List HostState) (place : ℕ) → position (λ state. is_of host state && is_under_way state) states ≡ Some place → place < length states
place_within host states place at = (position-Some (λ (state : HostState). is_of host state && is_under_way state) states place (record { host = host; learnt = None }) at).0

-- The table where a lookup is forgotten.
pub fewer_table : (gives : Gives) (p : HostState → Bool) (states : List HostState) → IsTable gives states → IsTable gives (filter p states)
fewer_table gives p states table = record {
  one = distinct_filter p states table.one;
  few = omega (arith, table.few, count_by_filter is_under_way p states);
  names = all_filter (λ (state : HostState). SpellsNone state.host) p states table.names;
  true_to = all_filter (λ (state : HostState). IsLearnt gives state.host state.learnt) p states table.true_to;
}

-- nothing is answered but what a lookup of the host gave
pub told_true : (gives : Gives) (host : List ℕ) (since now : ℕ) (states : List HostState) → AllByRecursion (λ state. IsLearnt gives state.host state.learnt) states → IsTrueOf gives host (told since now (find (is_of host) states))
told_true gives host since now [] h = tt
told_true gives host since now (s ∷ ss) h = told_true_by gives host since now s ss (is_of host s) refl h.0 (told_true gives host since now ss h.1)
