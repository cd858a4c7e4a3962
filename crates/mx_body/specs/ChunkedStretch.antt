-- Private: bytes of a chunked body that a reader passes at once.
use Rattle.std.specs.Prelude.{◌≡◌, ℕ, ◌+◌, ◌<◌, ◌≤◌, true, List, [], ◌∷◌, length, take, Option, Some, None}
use Rattle.mx_body.specs.declared.part.Part.{Part}
use Rattle.mx_body.specs.declared.chunked.place.ChunkedPlace.{ChunkedPlace}
use Rattle.mx_body.specs.declared.chunked.place.ChunkedPlace.TheVariants.{Data}
use Rattle.mx_body.specs.declared.chunked.stretch.Stretch.{Stretch}
use Rattle.mx_body.specs.ChunkedPlace.{place_after, is_settled, parts_begun}

-- the part whose data begin at the offset, if so many begin there
abbrev pub part_begun : Option ℕ → ℕ → List Part
part_begun None at = []
part_begun (Some left) at = record { start = at; end = at + left } ∷ []

-- from the place, the first bytes of the input lead to the next, and at most one part begins after them; a byte that
-- settles what they are comes alone
pub record IsStretch (limit : ℕ) (place : ChunkedPlace) (input : List ℕ) (s : Stretch) : Type 0 where
  pub moved : 0 < s.len
  pub within : s.len ≤ length input
  pub leads : place_after limit place (take s.len input) ≡ s.next
  pub part : (at : ℕ) → parts_begun limit place at (take s.len input) ≡ part_begun s.ahead (at + s.len)
  pub ahead : (left : ℕ) → s.ahead ≡ Some left → s.next ≡ Data left
  pub by_one_byte : is_settled s.next ≡ true → s.len ≡ 1

-- from the place, the first n bytes lead to `next`, and no part begins in them
pub record GoesOn (limit : ℕ) (place next : ChunkedPlace) (n : ℕ) (input : List ℕ) : Type 0 where
  pub within : n ≤ length input
  pub leads : place_after limit place (take n input) ≡ next
  pub part : (at : ℕ) → parts_begun limit place at (take n input) ≡ []
