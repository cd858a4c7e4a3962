-- What holds of every cache of idle links.
use Rattle.std.specs.Prelude.{◌≡◌, ◌≤◌, List, [], ◌∷◌, ◌++◌, Option, Some, MatchOption}
use Rattle.mx_request.specs.Endpoint.{HostAndPort}
use Rattle.mx_turn.specs.Idle.{Idle, kept, HasNone, TakesNewest}

-- The link that was put was taken out, and nothing else.
pub record GivesBack {L : Type 0} (put : List (HostAndPort × L)) (endpoint : HostAndPort) (link : L) (taken : Option L) (left : List (HostAndPort × L)) : Type 0 where
  pub that_link : taken ≡ Some link
  pub rest : left ++ (endpoint, link) ∷ [] ≡ put

-- A take of an endpoint's link that comes right after a put of one gives that one, where the limit isn't 0.
abbrev pub TakeGivesWhatWasPut : Type 0 → Type 0
TakeGivesWhatWasPut L =
    (cache : Idle L) (endpoint : HostAndPort) (link : L) (taken : Option L) (left : List (HostAndPort × L))
    → 1 ≤ cache.limit
    → let put = kept cache.limit (cache.links ++ (endpoint, link) ∷ []) in
    MatchOption taken (HasNone endpoint put) (λ newest. TakesNewest endpoint put newest left)
    → GivesBack put endpoint link taken left
