-- A run of `get` at its desks, one step further.
use Rattle.std.proofs.Common.{◌≡◌, ◌≢◌, ◌∙◌, refl, ap, sym, subst, ℕ, ◌<◌, ◌≤◌, suc, zero, List, [], ◌∷◌, ◌++◌, map, length, true, false, inl, inr, arith}
use Rattle.std.specs.Prelude.{◌⊎◌, All, Err, IfSome, Option, Some, None, Result, Ok, count_by, is_some, option_map, get_or, slice_get, slice_set, take}
use Rattle.std.proofs.lemmas.List.{length-map, length-set, length_push}
use Rattle.std.proofs.lemmas.List.Elements.{All-push}
use Rattle.std.proofs.lemmas.Option.{slice_get-get_or, slice_get-map, slice_get_within}
use Rattle.mx_types.specs.declared.code.Code.{Code}
use Rattle.mx_request.specs.Request.{RequestValue}
use Rattle.mx_request.specs.RequestError.{refusal_code}
use Rattle.mx_request.specs.declared.error.RequestError.{RequestError}
use Rattle.mx_request.specs.declared.error.RequestError.TheVariants as refusal
use Rattle.mx_chain.specs.Outcomes.{OutcomeValue}
use Rattle.mx_desk.proofs.Desks.{none_is_added}
use Rattle.mx_fetch.proofs.Lists.{cases, stays, there}
use Rattle.mx_text.specs.Asking.{asked_for}
use Rattle.mx_text.specs.declared.fetched.Fetched.{Fetched}
use Rattle.mx_run_io.specs.declared.options.Options.{Options}
use Rattle.mx_text.specs.Fetched.{fetched_of}
use Rattle.mx_run_get.specs.Asked.{AreEndsOf, IsEnd, asked_of}
use Rattle.mx_run_get.specs.Getting.{AreAwaited, GettingValue, HasTakenAll, IsGetting, asked_next, wanted}
use Rattle.mx_run_get.specs.Places.{TakesAt, asked_at, is_awaiting, is_awaiting_at, noted_at}
use Rattle.mx_run_get.specs.declared.place.Place.{Place}
use Rattle.mx_run_get.specs.declared.place.Place.TheVariants.{Known, Taken}
use Rattle.mx_run_get.proofs.Places.{note_keeps, take_keeps}

-- lists which have one more
module _ {X : Type 0} where
  pushed : (xs : List X) (v x : X) (i : ℕ) → slice_get (xs ++ v ∷ []) i ≡ Some x → ((i ≡ length xs) × (v ≡ x)) ⊎ ((i < length xs) × (slice_get xs i ≡ Some x))
  pushed [] v x zero is = inl (refl, cc)
  pushed [] v x (suc i) is = absurd (cc)
  pushed (y ∷ ys) v x zero is = inr (omega arith, is)
  pushed (y ∷ ys) v x (suc i) is =
      elim (pushed ys v x i is) [
        | inl c ↦ inl (ap suc c.0, c.1)
        | inr c ↦ inr (omega (arith, c.0), c.1)
      ]

  take_next : (xs : List X) (n : ℕ) (x : X) → slice_get xs n ≡ Some x → take (suc n) xs ≡ take n xs ++ x ∷ []
  take_next [] n x is = absurd (cc)
  take_next (y ∷ ys) zero x is = let same : y ≡ x = cc in ap (λ z. z ∷ []) same
  take_next (y ∷ ys) (suc n) x is = ap (λ rest. y ∷ rest) (take_next ys n x is)

-- and where they end
outside : {X : Type 0} (xs : List X) (n : ℕ) → slice_get xs n ≡ None → length xs ≤ n
outside [] n is = omega arith
outside (x ∷ xs) zero is = absurd (cc)
outside (x ∷ xs) (suc n) is = let h = outside xs n is in omega (arith, h)

from_front : {X : Type 0} (xs : List X) (n i : ℕ) (x : X) → slice_get (take n xs) i ≡ Some x → slice_get xs i ≡ Some x
from_front xs zero i x is = absurd (cc)
from_front [] (suc n) i x is = absurd (cc)
from_front (y ∷ ys) (suc n) zero x is = is
from_front (y ∷ ys) (suc n) (suc i) x is = from_front ys n i x is

map_push : {A B : Type 0} (f : A → B) (xs : List A) (x : A) → map f (xs ++ x ∷ []) ≡ map f xs ++ f x ∷ []
map_push f [] x = refl
map_push f (y ∷ ys) x = ap (λ rest. f y ∷ rest) (map_push f ys x)

length_take-le : {X : Type 0} (n : ℕ) (xs : List X) → length (take n xs) ≤ length xs
length_take-le zero xs = omega arith
length_take-le (suc n) [] = omega arith
length_take-le (suc n) (x ∷ xs) = let h = length_take-le n xs in omega (arith, h)

-- where none is added no end is awaited
pub none_awaited : (places : List Place) (asked : List (Option RequestValue)) → count_by is_some asked ≡ 0 → AreAwaited places asked
    → (i : ℕ) (p : Place) → slice_get places i ≡ Some p → is_awaiting p ≡ true → ⊥
none_awaited places asked none all i p is waits = let a = all i p is waits in none_is_added asked i a.0 none a.1

-- what was taken is as many as there are URLs, where there is a place for each and no end is awaited
taken_within : (g : GettingValue) → IsGetting g → length g.taken ≤ length g.urls
taken_within g is =
    let asks = asked_for g.options.timeout_ms g.options.max_redirects in
    let count : length g.taken ≡ length (take (length g.taken) (wanted g)) = sym (length-map g.taken asked_of) ∙ ap length is.in_order in
    omega (arith, count, length_take-le (length g.taken) (wanted g), length-map g.urls asks)

pub all_taken : (g : GettingValue) → IsGetting g → HasTakenAll g → ((i : ℕ) (p : Place) → slice_get g.places i ≡ Some p → is_awaiting p ≡ true → ⊥)
    → length g.places ≡ length g.urls → length g.taken ≡ length g.urls
all_taken g is all none count = by (slice_get g.places (length g.taken)) refl where
  by : (o : Option Place) → slice_get g.places (length g.taken) ≡ o → length g.taken ≡ length g.urls
  by (Some p) at = absurd (none (length g.taken) p at (subst (λ o. IfSome o (λ q. is_awaiting q ≡ true)) at all))
  by None at = omega (arith, count, taken_within g is, outside g.places (length g.taken) at)

-- one place more, at which an end is awaited, or known
pub awaited_more : (places more : List Place) (asked now : List (Option RequestValue)) (n : ℕ) (p : Place) (request : RequestValue) → n ≡ length places
    → more ≡ places ++ p ∷ [] → slice_get asked n ≡ Some None → now ≡ slice_set asked n (Some request) → asked_at p ≡ Ok request
    → AreAwaited places asked → AreAwaited more now
awaited_more places more asked now n p request number is_more free is_now of all i q is waits =
    elim (pushed places p q i (ap (λ l. slice_get l i) (sym is_more) ∙ is)) as (λ _. (r : RequestValue) × (slice_get now i ≡ Some (Some r)) × (asked_at q ≡ Ok r)) [
      | inl c ↦ (
        request,
        ap (λ l. slice_get l i) is_now ∙ ap (slice_get (slice_set asked n (Some request))) (c.0 ∙ sym number) ∙ there asked n None (Some request) free,
        ap asked_at (sym c.1) ∙ of,
      )
      | inr c ↦
          let a = all i q c.1 waits in
          let other : i ≢ n = λ e. omega (arith, e, c.0, number) in
          (a.0, ap (λ l. slice_get l i) is_now ∙ stays asked n i (Some request) other ∙ a.1, a.2)
    ]

pub known_more : (places more : List Place) (asked : List (Option RequestValue)) (p : Place) → more ≡ places ++ p ∷ [] → is_awaiting p ≡ false
    → AreAwaited places asked → AreAwaited more asked
known_more places more asked p is_more known all i q is waits =
    elim (pushed places p q i (ap (λ l. slice_get l i) (sym is_more) ∙ is)) as (λ _. (r : RequestValue) × (slice_get asked i ≡ Some (Some r)) × (asked_at q ≡ Ok r)) [
      | inl c ↦ let bad : false ≡ true = sym known ∙ ap is_awaiting c.1 ∙ waits in absurd (cc)
      | inr c ↦ all i q c.1 waits
    ]

-- one end that is known now
pub awaited_less : (places less : List Place) (asked now : List (Option RequestValue)) (at : ℕ) (o : OutcomeValue) → less ≡ noted_at places at o
    → now ≡ slice_set asked at None → AreAwaited places asked → AreAwaited less now
awaited_less places less asked now at o is_less is_now all i q is waits =
    elim (cases places at i (Known (fetched_of o)) q (ap (λ l. slice_get l i) (sym is_less) ∙ is)) as (λ _. (r : RequestValue) × (slice_get now i ≡ Some (Some r)) × (asked_at q ≡ Ok r)) [
      | inl c ↦ let bad : false ≡ true = ap is_awaiting c.1 ∙ waits in absurd (cc)
      | inr c ↦ let a = all i q c.1 waits in (a.0, ap (λ l. slice_get l i) is_now ∙ stays asked at i None c.0 ∙ a.1, a.2)
    ]

-- what has ended is what was asked for at its place
pub ended_for : (places : List Place) (asked : List (Option RequestValue)) (at : ℕ) (request : RequestValue) → slice_get asked at ≡ Some (Some request)
    → AreAwaited places asked → (p : Place) → slice_get places at ≡ Some p → is_awaiting p ≡ true → asked_at p ≡ Ok request
ended_for places asked at request added all p is waits =
    let a = all at p is waits in
    let same : a.0 ≡ request = let e : Some (Some a.0) ≡ Some (Some request) = sym a.1 ∙ added in cc in
    a.2 ∙ ap Ok same

-- the same URLs ask for the same
same_wanted : (g h : GettingValue) → h.urls ≡ g.urls → h.options ≡ g.options → wanted h ≡ wanted g
same_wanted g h urls options =
    ap (map (asked_for h.options.timeout_ms h.options.max_redirects)) urls ∙ ap (λ o. map (asked_for o.timeout_ms o.max_redirects) g.urls) options

-- the ends that were taken are those of the first URLs
in_order_still : (g h : GettingValue) → h.urls ≡ g.urls → h.options ≡ g.options → h.taken ≡ g.taken → IsGetting g → map asked_of h.taken ≡ take (length h.taken) (wanted h)
in_order_still g h urls options taken is =
    ap (map asked_of) taken ∙ is.in_order ∙ sym (ap (λ (l : List Fetched). take (length l) (wanted g)) taken) ∙ sym (ap (take (length h.taken)) (same_wanted g h urls options))

-- one place more, of what the next URL asks for
pub getting_more : (g h : GettingValue) (p : Place) → h.urls ≡ g.urls → h.options ≡ g.options → h.taken ≡ g.taken → h.places ≡ g.places ++ p ∷ []
    → asked_next g ≡ Some (asked_at p) → IsGetting g → IsGetting h
getting_more g h p urls options taken places next is = record {
  in_order = in_order_still g h urls options taken is;
  outcomes = subst (All IsEnd) (sym taken) is.outcomes;
  within =
      let more = slice_get_within (wanted g) (length g.places) (asked_at p) next in
      omega (arith, ap length places, length_push g.places p, ap length urls, more, length-map g.urls (asked_for g.options.timeout_ms g.options.max_redirects));
  asked =
      let same : wanted h ≡ wanted g = same_wanted g h urls options in
      let count : length h.places ≡ suc (length g.places) = omega (arith, ap length places, length_push g.places p) in
      ap (map asked_at) places ∙ map_push asked_at g.places p ∙ ap (λ l. l ++ asked_at p ∷ []) is.asked ∙ sym (take_next (wanted g) (length g.places) (asked_at p) next)
      ∙ sym (ap (λ l. take l (wanted g)) count) ∙ sym (ap (take (length h.places)) same);
}

-- and what the next URL asks for
pub next_is : {U : Type 0} (bytes : U → List ℕ) (us : List U) (options : Options) (places : List Place) (taken : List Fetched) (begun : Option (List ℕ)) (n : ℕ) (d : U) (r : Result RequestValue Code) → n ≡ length places
    → length places < length (map bytes us) → asked_for options.timeout_ms options.max_redirects (bytes (get_or us n d)) ≡ r
    → asked_next (record { urls = map bytes us; options = options; places = places; taken = taken; begun = begun }) ≡ Some r
next_is bytes us options places taken begun n d r number more of =
    let asks = asked_for options.timeout_ms options.max_redirects in
    let inside : n < length us = omega (arith, number, more, length-map us bytes) in
    let url : slice_get (map bytes us) n ≡ Some (bytes (get_or us n d)) = slice_get-map bytes us n ∙ ap (option_map bytes) (slice_get-get_or us n d inside) in
    ap (slice_get (map asks (map bytes us))) (sym number) ∙ slice_get-map asks (map bytes us) n ∙ ap (option_map asks) url ∙ ap Some of

-- what a URL is refused with
pub refusal_is : (r : Result RequestValue Code) (e : RequestError) → (r ≡ Err (refusal_code e)) ⊎ (e ≡ refusal.OutOfMemory) → e ≢ refusal.OutOfMemory → r ≡ Err (refusal_code e)
refusal_is r e (inl h) other = h
refusal_is r e (inr bad) other = absurd (other bad)

-- other places, of what the URLs ask for too
same_places : (g h : GettingValue) → h.urls ≡ g.urls → h.options ≡ g.options → h.taken ≡ g.taken → map asked_at h.places ≡ map asked_at g.places → IsGetting g → IsGetting h
same_places g h urls options taken places is =
    let same : wanted h ≡ wanted g = same_wanted g h urls options in
    let count : length h.places ≡ length g.places = sym (length-map h.places asked_at) ∙ ap length places ∙ length-map g.places asked_at in
    record {
      within = omega (arith, count, ap length urls, is.within);
      asked = places ∙ is.asked ∙ sym (ap (λ l. take l (wanted g)) count) ∙ sym (ap (take (length h.places)) same);
      in_order = in_order_still g h urls options taken is;
      outcomes = subst (All IsEnd) (sym taken) is.outcomes;
    }

-- an end is noted
pub getting_noted : (g h : GettingValue) (at : ℕ) (o : OutcomeValue) → h.urls ≡ g.urls → h.options ≡ g.options → h.taken ≡ g.taken → h.places ≡ noted_at g.places at o
    → ((p : Place) → slice_get g.places at ≡ Some p → is_awaiting p ≡ true → asked_at p ≡ Ok o.request) → is_awaiting_at g.places at ≡ true
    → IsGetting g → IsGetting h
getting_noted g h at o urls options taken places asked waits is = same_places g h urls options taken (ap (map asked_at) places ∙ note_keeps g.places at o asked waits) is

-- an end leaves its place, where it is taken or not
pub getting_left : (g h : GettingValue) (at : ℕ) (e : Fetched) → h.urls ≡ g.urls → h.options ≡ g.options → h.taken ≡ g.taken → TakesAt g.places at e h.places
    → IsGetting g → IsGetting h
getting_left g h at e urls options taken t is = same_places g h urls options taken (take_keeps g.places h.places at e t) is

pub getting_taken : (g h : GettingValue) (at : ℕ) (e : Fetched) → h.urls ≡ g.urls → h.options ≡ g.options → at ≡ length g.taken → h.taken ≡ g.taken ++ e ∷ []
    → TakesAt g.places at e h.places → IsEnd e → IsGetting g → IsGetting h
getting_taken g h at e urls options number taken t end is =
    let left = getting_left g (record h { taken = g.taken }) at e urls options refl t is in
    let same : wanted h ≡ wanted g = same_wanted g h urls options in
    let here : slice_get (map asked_at g.places) at ≡ Some (asked_of e) = slice_get-map asked_at g.places at ∙ ap (option_map asked_at) t.known in
    let next : slice_get (wanted g) (length g.taken) ≡ Some (asked_of e) =
    ap (slice_get (wanted g)) (sym number) ∙ from_front (wanted g) (length g.places) at (asked_of e) (sym (ap (λ l. slice_get l at) is.asked) ∙ here) in
    let count : length h.taken ≡ suc (length g.taken) = omega (arith, ap length taken, length_push g.taken e) in
    record {
      within = left.within;
      asked = left.asked;
      in_order =
          ap (map asked_of) taken ∙ map_push asked_of g.taken e ∙ ap (λ l. l ++ asked_of e ∷ []) is.in_order
          ∙ sym (take_next (wanted g) (length g.taken) (asked_of e) next) ∙ sym (ap (λ l. take l (wanted g)) count) ∙ sym (ap (take (length h.taken)) same);
      outcomes = subst (All IsEnd) (sym taken) (All-push IsEnd g.taken e is.outcomes end);
    }

-- what is taken had a place
pub taken_inside : (places less : List Place) (at : ℕ) (e : Fetched) → TakesAt places at e less → at < length less
taken_inside places less at e t =
    omega (arith, slice_get_within places at (Known e) t.known, ap length t.is, length-set places at (Taken t.seen))

-- the ends of a run are those of its first URLs
map_take : {A B : Type 0} (f : A → B) (n : ℕ) (xs : List A) → take n (map f xs) ≡ map f (take n xs)
map_take f zero xs = refl
map_take f (suc n) [] = refl
map_take f (suc n) (x ∷ xs) = ap (λ rest. f x ∷ rest) (map_take f n xs)

pub first_ends : (g : GettingValue) → IsGetting g → AreEndsOf g.options.timeout_ms g.options.max_redirects (take (length g.taken) g.urls) g.taken
first_ends g is = record {
  asked = is.in_order ∙ map_take (asked_for g.options.timeout_ms g.options.max_redirects) (length g.taken) g.urls;
  outcomes = is.outcomes;
}
