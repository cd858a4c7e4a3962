-- What is added under numbers, and how many there are.
use Rattle.std.proofs.Common.{◌≡◌, ◌⊎◌, inl, inr, ◌∙◌, refl, ap, sym, subst, ℕ, ◌+◌, ◌-◌, ◌<◌, ◌≤◌, suc, zero, List, [], ◌∷◌, map, length, Bool, true, false, cond, unwrap_or, arith}
use Rattle.std.specs.Prelude.{◌==◌, All, Option, Some, None, count_by, is_some, slice_get, slice_set}
use Rattle.std.proofs.lemmas.Bool.{and_parts, eqb-true, not-true}
use Rattle.std.proofs.lemmas.List.Elements.{All-cons, All-head, All-nil, All-set, All-tail, All-weaker}
use Rattle.std.proofs.lemmas.List.Sums.{sum_by-cons}
use mathlib.Core.List.{IsPrefix}
use Rattle.mx_types.specs.declared.names.Ticket.{Ticket}
use Rattle.mx_types.specs.declared.origin.Origin.{Origin}
use Rattle.mx_request.specs.Request.{IsRequest, RequestValue, request_origin}
use Rattle.mx_request.specs.Laws.{OriginIsWholeRequest}
use Rattle.mx_lock.specs.Ties.{Has, tie}
use Rattle.mx_lock.proofs.Tying.{has_more}
use Rattle.mx_desk.specs.Additions.{AdditionView, AreAtFirst, IsTold, IsToldAt, awaits_at, is_at}
use Rattle.mx_desk.specs.Desks.{IsDesk, asked_at}
use Rattle.mx_desk.specs.Ties.{AreLater, SeatTies, ties_at}

-- one where a request is added
weight : Option RequestValue → ℕ
weight o = cond (is_some o) 1 0

front : (o : Option RequestValue) (os : List (Option RequestValue)) → count_by is_some (o ∷ os) ≡ weight o + count_by is_some os
unfolding weight
front o os = sum_by-cons (λ p. cond (is_some p) 1 0) o os

weighs_one : (r : RequestValue) → weight (Some r) ≡ 1
unfolding weight
weighs_one r = refl

weighs_none : weight None ≡ 0
unfolding weight
weighs_none = refl

-- how many are added once what is under a number has changed
counted : (os : List (Option RequestValue)) (i : ℕ) (old v : Option RequestValue) → slice_get os i ≡ Some old
    → count_by is_some (slice_set os i v) + weight old ≡ count_by is_some os + weight v
counted [] i old v is = absurd (cc)
counted (o ∷ os) zero old v is = let same : o ≡ old = cc in omega (arith, front o os, front v os, ap weight same)
counted (o ∷ os) (suc i) old v is = let h = counted os i old v is in omega (arith, front o os, front o (slice_set os i v), h)

-- the requests of additions one of which has changed
pub asked_set : (xs : List (Option AdditionView)) (i : ℕ) (v : Option AdditionView) → map asked_at (slice_set xs i v) ≡ slice_set (map asked_at xs) i (asked_at v)
asked_set [] i v = refl
asked_set (a ∷ xs) zero v = refl
asked_set (a ∷ xs) (suc i) v = ap (λ l. asked_at a ∷ l) (asked_set xs i v)

pub asked_there : (xs : List (Option AdditionView)) (i : ℕ) (o : Option AdditionView) → slice_get xs i ≡ Some o → slice_get (map asked_at xs) i ≡ Some (asked_at o)
asked_there [] i o is = absurd (cc)
asked_there (a ∷ xs) zero o is = let same : a ≡ o = cc in ap (λ p. Some (asked_at p)) same
asked_there (a ∷ xs) (suc i) o is = asked_there xs i o is

-- a number under which no request is added has no addition
not_some : (o : Option AdditionView) → asked_at o ≡ None → o ≡ None
not_some None is = refl
not_some (Some a) is = absurd (cc)

pub free_there : (xs : List (Option AdditionView)) (i : ℕ) → slice_get (map asked_at xs) i ≡ Some None → slice_get xs i ≡ Some None
free_there [] i is = absurd (cc)
free_there (a ∷ xs) zero is = let same : asked_at a ≡ None = cc in ap Some (not_some a same)
free_there (a ∷ xs) (suc i) is = free_there xs i is

-- why none is added under a number
pub none_why : {A B C : Type 0} (xs items : List (Option AdditionView)) (i : ℕ) → xs ≡ items → (((slice_get xs i ≡ Some None → ⊥) ⊎ A) × B) ⊎ C
    → (((slice_get (map asked_at items) i ≡ Some None → ⊥) ⊎ A) × B) ⊎ C
none_why xs items i same (inr c) = inr c
none_why xs items i same (inl (inr a, b)) = inl (inr a, b)
none_why xs items i same (inl (inl taken, b)) = inl (inl (λ free. taken (ap (λ l. slice_get l i) same ∙ free_there items i free)), b)

-- a number under which there is an addition or none is one of the numbers
pub inside : (xs : List (Option AdditionView)) (i : ℕ) (o : Option AdditionView) → slice_get xs i ≡ Some o → i < length xs
inside [] i o is = absurd (cc)
inside (a ∷ xs) zero o is = omega arith
inside (a ∷ xs) (suc i) o is = let h = inside xs i o is in omega (arith, h)

-- what is under a number whose end is awaited
pub is_there : (b : Bool) (a : AdditionView) → is_at b a ≡ true → a.beside ≡ b
is_there true a is = is
is_there false a is = not-true a.beside is

awaited : (xs : List (Option AdditionView)) (i : ℕ) (t : Ticket) (b : Bool) → awaits_at xs i t b ≡ true
    → (a : AdditionView) × (slice_get xs i ≡ Some (Some a)) × (a.ticket.0 ≡ t.0) × (a.beside ≡ b)
awaited [] i t b is = let bad : false ≡ true = is in absurd (cc)
awaited (None ∷ xs) zero t b is = let bad : false ≡ true = is in absurd (cc)
awaited (Some a ∷ xs) zero t b is =
    let parts = and_parts (a.ticket.0 == t.0) (is_at b a) is in
    (a, refl, eqb-true a.ticket.0 t.0 parts.0, is_there b a parts.1)
awaited (a ∷ xs) (suc i) t b is = awaited xs i t b is

-- where none is added, none is under any number
pub none_is_added : (os : List (Option RequestValue)) (i : ℕ) (r : RequestValue) → count_by is_some os ≡ 0 → slice_get os i ≡ Some (Some r) → ⊥
none_is_added [] i r none is = absurd (cc)
none_is_added (o ∷ os) zero r none is = let same : o ≡ Some r = cc in omega (arith, front o os, ap weight same, weighs_one r, none)
none_is_added (o ∷ os) (suc i) r none is = none_is_added os i r (omega (arith, front o os, none)) is

-- of what the seats were told they stay told
later_at : (x y : SeatTies) → AreLater x y → (b : Bool) → IsPrefix (ties_at x b) (ties_at y b)
later_at x y more true = more.beside
later_at x y more false = more.first

told_at_more : (x y : SeatTies) → AreLater x y → (o : Option AdditionView) → IsToldAt x o → IsToldAt y o
told_at_more x y more None is = tt
told_at_more x y more (Some a) is = record {
  request = is.request;
  told = has_more (ties_at x a.beside) (ties_at y a.beside) a.ticket (request_origin a.request) (later_at x y more a.beside) is.told;
}

all_at : (ties : SeatTies) (xs : List (Option AdditionView)) (i : ℕ) (o : Option AdditionView) → All (IsToldAt ties) xs → slice_get xs i ≡ Some o → IsToldAt ties o
all_at ties [] i o all is = absurd (cc)
all_at ties (a ∷ xs) zero o all is = let same : a ≡ o = cc in subst (IsToldAt ties) same (All-head (IsToldAt ties) a xs all)
all_at ties (a ∷ xs) (suc i) o all is = all_at ties xs i o (All-tail (IsToldAt ties) a xs all) is

-- a ticket has one origin
one_origin : (ties : List Origin) (t u : Ticket) (a b : Origin) → t.0 ≡ u.0 → Has ties (tie t a) → Has ties (tie u b) → a ≡ b
one_origin ties t u a b same h k = ap (λ (o : Option Origin). unwrap_or o a) (sym h ∙ ap (slice_get ties) same ∙ k)

-- an addition whose end came is the one that was there, of the request that has ended
same_ticket : (t u : Ticket) → t.0 ≡ u.0 → t ≡ u
same_ticket t u is = let T : ℕ → Ticket = λ n. record { 0 = n } in ap T is

same_addition : (a : AdditionView) (t : Ticket) (b : Bool) (r : RequestValue) → a.ticket ≡ t → a.beside ≡ b → a.request ≡ r → a ≡ record { ticket = t; beside = b; request = r }
same_addition a t b r ticket beside request =
    ap (λ x. record { ticket = x; beside = a.beside; request = a.request }) ticket
    ∙ ap (λ x. record { ticket = t; beside = x; request = a.request }) beside
    ∙ ap (λ x. record { ticket = t; beside = b; request = x }) request

pub added_same : OriginIsWholeRequest → (ties : SeatTies) (xs : List (Option AdditionView)) (i : ℕ) (t : Ticket) (b : Bool) (r : RequestValue) → IsRequest r
    → Has (ties_at ties b) (tie t (request_origin r)) → All (IsToldAt ties) xs → awaits_at xs i t b ≡ true
    → slice_get xs i ≡ Some (Some (record { ticket = t; beside = b; request = r }))
added_same law ties xs i t b r is told all at =
    let w = awaited xs i t b at in
    let told_here = subst (λ l. IsTold l w.0) (ap (ties_at ties) w.3) (all_at ties xs i (Some w.0) all w.1) in
    let request = law w.0.request r told_here.request is (one_origin (ties_at ties b) w.0.ticket t (request_origin w.0.request) (request_origin r) w.2 told_here.told told) in
    w.1 ∙ ap (λ a. Some (Some a)) (same_addition w.0 t b r (same_ticket w.0.ticket t w.2) w.3 request)

-- a request that has ended is the one that was added where its end was awaited
pub asked_same : OriginIsWholeRequest → (ties : SeatTies) (xs : List (Option AdditionView)) (i : ℕ) (t : Ticket) (b : Bool) (r : RequestValue) → IsRequest r
    → Has (ties_at ties b) (tie t (request_origin r)) → All (IsToldAt ties) xs → awaits_at xs i t b ≡ true → slice_get (map asked_at xs) i ≡ Some (Some r)
asked_same law ties xs i t b r is told all at =
    asked_there xs i (Some (record { ticket = t; beside = b; request = r })) (added_same law ties xs i t b r is told all at)

-- a desk whose seats were told more
pub desk_on : (ties more : SeatTies) (xs : List (Option AdditionView)) (w n : ℕ) → AreLater ties more → IsDesk ties xs w n → IsDesk more xs w n
desk_on ties more xs w n later is = record {
  told = All-weaker (IsToldAt ties) (IsToldAt more) (told_at_more ties more later) xs is.told;
  waiting = is.waiting;
  within = is.within;
}

-- with one more
pub desk_adds : (ties : SeatTies) (xs : List (Option AdditionView)) (w n i : ℕ) (a : AdditionView) → slice_get xs i ≡ Some None → IsTold (ties_at ties a.beside) a
    → count_by is_some (map asked_at xs) < w → IsDesk ties xs w n → IsDesk ties (slice_set xs i (Some a)) w (n + 1)
desk_adds ties xs w n i a free told room is = record {
  told = All-set (IsToldAt ties) xs i (Some a) told is.told;
  waiting = omega (
    arith,
    is.waiting,
    counted (map asked_at xs) i None (Some a.request) (asked_there xs i None free),
    weighs_none,
    weighs_one a.request,
    ap (count_by is_some) (asked_set xs i (Some a)),
  );
  within = omega (arith, is.waiting, room);
}

-- with one less
pub one_is_added : (ties : SeatTies) (xs : List (Option AdditionView)) (w n i : ℕ) (t : Ticket) (b : Bool) → awaits_at xs i t b ≡ true → IsDesk ties xs w n → 1 ≤ n
one_is_added ties xs w n i t b at is =
    let a = awaited xs i t b at in
    omega (arith, is.waiting, counted (map asked_at xs) i (Some a.0.request) None (asked_there xs i (Some a.0) a.1), weighs_none, weighs_one a.0.request)

pub desk_frees : (ties : SeatTies) (xs : List (Option AdditionView)) (w n i : ℕ) (t : Ticket) (b : Bool) → awaits_at xs i t b ≡ true
    → IsDesk ties xs w n → IsDesk ties (slice_set xs i None) w (n - 1)
desk_frees ties xs w n i t b at is =
    let a = awaited xs i t b at in
    record {
      told = All-set (IsToldAt ties) xs i None tt is.told;
      waiting = omega (
        arith,
        is.waiting,
        counted (map asked_at xs) i (Some a.0.request) None (asked_there xs i (Some a.0) a.1),
        weighs_none,
        weighs_one a.0.request,
        ap (count_by is_some) (asked_set xs i None),
      );
      within = omega (arith, is.within);
    }

-- of none
all_none_told : (ties : SeatTies) (o : Option AdditionView) → o ≡ None → IsToldAt ties o
all_none_told ties o is = subst (IsToldAt ties) (sym is) tt

none_counted : (xs : List (Option AdditionView)) → All (λ o. o ≡ None) xs → count_by is_some (map asked_at xs) ≡ 0
none_counted [] all = refl
none_counted (a ∷ xs) all =
    let head : a ≡ None = All-head (λ o. o ≡ None) a xs all in
    omega (arith, front (asked_at a) (map asked_at xs), ap (λ o. weight (asked_at o)) head, weighs_none, none_counted xs (All-tail (λ o. o ≡ None) a xs all))

pub none_asked : (xs : List (Option AdditionView)) → All (λ o. o ≡ None) xs → All (λ o. o ≡ None) (map asked_at xs)
none_asked [] all = All-nil (λ o. o ≡ None)
none_asked (a ∷ xs) all = All-cons (λ o. o ≡ None) (asked_at a) (map asked_at xs) (ap asked_at (All-head (λ o. o ≡ None) a xs all)) (none_asked xs (All-tail (λ o. o ≡ None) a xs all))

pub asked_length : (xs : List (Option AdditionView)) → length (map asked_at xs) ≡ length xs
asked_length [] = refl
asked_length (a ∷ xs) = ap suc (asked_length xs)

pub desk_none : (ties : SeatTies) (xs : List (Option AdditionView)) (w : ℕ) → All (λ o. o ≡ None) xs → IsDesk ties xs w 0
desk_none ties xs w all = record {
  told = All-weaker (λ o. o ≡ None) (IsToldAt ties) (all_none_told ties) xs all;
  waiting = sym (none_counted xs all);
  within = omega arith;
}

-- a desk with another seat beside its first one, where nothing is added at the one that was there
first_told : (old new : SeatTies) (a : AdditionView) → new.first ≡ old.first → a.beside ≡ false → IsTold (ties_at old a.beside) a → IsTold (ties_at new a.beside) a
first_told old new a same at is = subst (λ l. IsTold l a) (ap (ties_at old) at ∙ sym same ∙ sym (ap (ties_at new) at)) is

all_first_told : (old new : SeatTies) → new.first ≡ old.first → (xs : List (Option AdditionView)) → AreAtFirst xs → All (IsToldAt old) xs → All (IsToldAt new) xs
all_first_told old new same [] at is = All-nil (IsToldAt new)
all_first_told old new same (None ∷ xs) at is =
    All-cons (IsToldAt new) None xs tt (all_first_told old new same xs (λ i a h. at (suc i) a h) (All-tail (IsToldAt old) None xs is))
all_first_told old new same (Some a ∷ xs) at is =
    All-cons (IsToldAt new) (Some a) xs (first_told old new a same (at zero a refl) (All-head (IsToldAt old) (Some a) xs is))
    (all_first_told old new same xs (λ i b h. at (suc i) b h) (All-tail (IsToldAt old) (Some a) xs is))

pub desk_with : (old new : SeatTies) (xs : List (Option AdditionView)) (w n : ℕ) → new.first ≡ old.first → AreAtFirst xs → IsDesk old xs w n → IsDesk new xs w n
desk_with old new xs w n same at is = record { told = all_first_told old new same xs at is.told; waiting = is.waiting; within = is.within }
