-- Idle links: a list of (endpoint, link) in order of put.
use Rattle.std.specs.Prelude.{◌≡◌, ℕ, nat_le, List, [], ◌∷◌, ◌++◌, length, drop, Option, Some, None, if◌then◌else◌}
use Rattle.std.specs.List.{AllByRecursion}
use Rattle.mx_request.specs.Endpoint.{HostAndPort}

-- what contracts see of a cache: the links with their endpoints, the oldest first, and the limit
pub record Idle (L : Type 0) : Type 0 where
  pub links : List (HostAndPort × L)
  pub limit : ℕ

-- The links after a put, from those before it and the new one: where they are over the limit the oldest leaves.
abbrev pub kept : {L : Type 0} → ℕ → List (HostAndPort × L) → List (HostAndPort × L)
kept limit links = if nat_le (length links) limit then links else drop 1 links

-- rule idle-limit-0: A cache with limit 0 hands each link back.
--
-- the link that leaves
abbrev pub left : {L : Type 0} → ℕ → List (HostAndPort × L) → Option L
left limit [] = None
left limit (oldest ∷ links) = if nat_le (length (oldest ∷ links)) limit then None else Some oldest.1

-- none of the links is of this endpoint
abbrev pub HasNone : {L : Type 0} → HostAndPort → List (HostAndPort × L) → Type 0
HasNone endpoint links = AllByRecursion (λ pair. pair.0 ≡ endpoint → ⊥) links

-- rule idle-newest-first: Of idle links the newest of an endpoint is taken; over the limit the oldest leaves.
--
-- the newest link of the endpoint was taken out
pub record TakesNewest {L : Type 0} (endpoint : HostAndPort) (old : List (HostAndPort × L)) (link : L) (new : List (HostAndPort × L)) : Type 0 where
  pub older : List (HostAndPort × L)
  pub newer : List (HostAndPort × L)
  pub was : old ≡ older ++ (endpoint, link) ∷ newer
  pub none_newer : HasNone endpoint newer
  pub is : new ≡ older ++ newer
