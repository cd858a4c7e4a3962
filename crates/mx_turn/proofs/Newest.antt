-- The newest link of an endpoint, right after one of it was put.
use Rattle.std.proofs.Common.{◌≡◌, ◌≤◌, ℕ, List, [], ◌∷◌, ◌++◌, length, drop, ap, sym, refl, ◌∙◌, subst, Bool, true, false, cond, nat_le, arith}
use Rattle.std.specs.Prelude.{Option, Some, None, MatchOption}
use Rattle.std.proofs.lemmas.Bool.Decides.{nat_tests}
use Rattle.mx_request.specs.Endpoint.{HostAndPort}
use Rattle.mx_turn.specs.Idle.{kept, HasNone, TakesNewest}
use Rattle.mx_turn.specs.IdleLaws.{GivesBack, TakeGivesWhatWasPut}

heads : {X : Type 0} (a b : X) (xs ys : List X) → a ∷ xs ≡ b ∷ ys → a ≡ b
heads a b xs ys is = cc

tails : {X : Type 0} (a b : X) (xs ys : List X) → a ∷ xs ≡ b ∷ ys → xs ≡ ys
tails a b xs ys is = cc

-- a list that ends with a link of the endpoint has one
has_its_last : {L : Type 0} (endpoint : HostAndPort) (link : L) (xs : List (HostAndPort × L)) → HasNone endpoint (xs ++ (endpoint, link) ∷ []) → ⊥
has_its_last endpoint link [] none = none.0 refl
has_its_last endpoint link (x ∷ xs) none = has_its_last endpoint link xs none.1

-- a list that holds something isn't empty
nonempty : {X : Type 0} (x : X) (front back : List X) → front ++ x ∷ back ≡ [] → ⊥
nonempty x [] back is = absurd cc
nonempty x (f ∷ front) back is = absurd cc

pub record IsLast {L : Type 0} (link newest : L) (xs rest : List (HostAndPort × L)) : Type 0 where
  pub same : newest ≡ link
  pub rest_is : rest ≡ xs

-- the newest is the last
newest_is_last : {L : Type 0} (endpoint : HostAndPort) (link newest : L) (xs older newer : List (HostAndPort × L)) → xs ++ (endpoint, link) ∷ [] ≡ older ++ (endpoint, newest) ∷ newer → HasNone endpoint newer → IsLast link newest xs (older ++ newer)
newest_is_last endpoint link newest [] [] newer was none = record {
  same = sym (ap (λ pair. pair.1) (heads (endpoint, link) (endpoint, newest) [] newer was));
  rest_is = sym (tails (endpoint, link) (endpoint, newest) [] newer was);
}
newest_is_last endpoint link newest [] (o ∷ os) newer was none = absurd (nonempty (endpoint, newest) os newer (sym (tails (endpoint, link) o [] (os ++ (endpoint, newest) ∷ newer) was)))
newest_is_last endpoint link newest (x ∷ xs) [] newer was none = absurd (has_its_last endpoint link xs (subst (HasNone endpoint) (sym (tails x (endpoint, newest) (xs ++ (endpoint, link) ∷ []) newer was)) none))
newest_is_last endpoint link newest (x ∷ xs) (o ∷ os) newer was none =
    let later = newest_is_last endpoint link newest xs os newer (tails x o (xs ++ (endpoint, link) ∷ []) (os ++ (endpoint, newest) ∷ newer) was) none in
    let first = heads x o (xs ++ (endpoint, link) ∷ []) (os ++ (endpoint, newest) ∷ newer) was in
    record { same = later.same; rest_is = λ i. sym first i ∷ later.rest_is i }

gives_back : {L : Type 0} (endpoint : HostAndPort) (link : L) (taken : Option L) (xs left : List (HostAndPort × L)) → MatchOption taken (HasNone endpoint (xs ++ (endpoint, link) ∷ [])) (λ newest. TakesNewest endpoint (xs ++ (endpoint, link) ∷ []) newest left) → GivesBack (xs ++ (endpoint, link) ∷ []) endpoint link taken left
gives_back endpoint link None xs left none = absurd (has_its_last endpoint link xs none)
gives_back endpoint link (Some newest) xs left takes =
    let last = newest_is_last endpoint link newest xs takes.older takes.newer takes.was takes.none_newer in
    record {
      that_link = ap Some last.same;
      rest = ap (λ front. front ++ (endpoint, link) ∷ []) (takes.is ∙ last.rest_is);
    }

-- The links after a put are some and then the new one, where the limit isn't 0.
ends_with_new : {L : Type 0} (pair : HostAndPort × L) (links : List (HostAndPort × L)) (limit : ℕ) (fits : Bool) → nat_le (length (links ++ pair ∷ [])) limit ≡ fits → 1 ≤ limit → (xs : List (HostAndPort × L)) × (cond fits (links ++ pair ∷ []) (drop 1 (links ++ pair ∷ [])) ≡ xs ++ pair ∷ [])
ends_with_new pair links limit true is some = (links, refl)
ends_with_new pair [] limit false is some = absurd (grind (arith, nat_tests))
ends_with_new pair (oldest ∷ links) limit false is some = (links, refl)

pub take_gives_what_was_put : {L : Type 0} → TakeGivesWhatWasPut L
take_gives_what_was_put cache endpoint link taken left some takes =
    let new = cache.links ++ (endpoint, link) ∷ [] in
    let ends = ends_with_new (endpoint, link) cache.links cache.limit (nat_le (length new) cache.limit) refl some in
    let is : kept cache.limit new ≡ ends.0 ++ (endpoint, link) ∷ [] = ends.1 in
    subst (λ put. GivesBack put endpoint link taken left) (sym is)
    (gives_back endpoint link taken ends.0 left (subst (λ put. MatchOption taken (HasNone endpoint put) (λ newest. TakesNewest endpoint put newest left)) is takes))
