-- Private: how far a chunked body has been read.
use Rattle.std.specs.Prelude.{◌≡◌, ℕ, ◌≤◌, List, length, take}
use Rattle.mx_body.specs.declared.part.Part.{Part}
use Rattle.mx_body.specs.declared.chunked.place.ChunkedPlace.{ChunkedPlace}
use Rattle.mx_body.specs.declared.chunked.place.ChunkedPlace.TheVariants.{Start}
use Rattle.mx_body.specs.declared.chunked.reader.ChunkedReader.{ChunkedReader}
use Rattle.mx_body.specs.ChunkedPlace.{place_after, parts_begun}

-- the first bytes of the body led the reader to its place, and began its parts
pub record HasRead (limit : ℕ) (body : List ℕ) (r : ChunkedReader) : Type 0 where
  pub within : r.read ≤ length body
  pub place : place_after limit Start (take r.read body) ≡ r.place
  pub parts : r.parts.items ≡ parts_begun limit Start r.at (take r.read body)

-- the first bytes of the body led to the place, and began the parts
pub record ReadTo (limit at : ℕ) (body : List ℕ) (read : ℕ) (place : ChunkedPlace) (parts : List Part) : Type 0 where
  pub inside : read ≤ length body
  pub leads : place_after limit Start (take read body) ≡ place
  pub begins : parts ≡ parts_begun limit Start at (take read body)
