-- What a link's removal from its place leaves.
use Rattle.std.proofs.Common.{◌≡◌, ℕ, suc, ◌+◌, ◌<◌, List, ◌∷◌, ◌++◌, length, take, drop, get_or, add-one, sym, ap, ◌∙◌, subst}
use Rattle.std.specs.List.{remove}
use Rattle.std.proofs.lemmas.List.{take-append-drop}
use Rattle.std.proofs.Math.Seq.{drop-cons}
use Rattle.mx_request.specs.Endpoint.{HostAndPort}
use Rattle.mx_turn.specs.Idle.{HasNone, TakesNewest}

-- the link at a place, which is of the endpoint and has none of it after it
pub TakesNewest-at : {L : Type 0} (endpoint : HostAndPort) (links new : List (HostAndPort × L)) (place : ℕ) (pair : HostAndPort × L) → place < length links → ((d : HostAndPort × L) → (get_or links place d).0 ≡ endpoint) → HasNone endpoint (drop (place + 1) links) → pair ≡ get_or links place pair → new ≡ remove links place → TakesNewest endpoint links pair.1 new
TakesNewest-at {L} endpoint links new place pair within is_of none is_pair is_new =
    let front = take place links in
    let found : get_or links place pair ≡ (endpoint, pair.1) = λ i. (is_of pair i, sym (ap (λ (p : HostAndPort × L). p.1) is_pair) i) in
    let rest : drop place links ≡ (endpoint, pair.1) ∷ drop (suc place) links = drop-cons links place pair within ∙ ap (λ p. p ∷ drop (suc place) links) found in
    record {
      older = front;
      newer = drop (suc place) links;
      was = sym (take-append-drop place links) ∙ ap (λ xs. front ++ xs) rest;
      none_newer = subst (λ n. HasNone endpoint (drop n links)) (add-one place) none;
      is = is_new;
    }
