-- The data among the bytes of a chunked body (RFC 9112, section 7.1), as they come.
use Rattle.std.specs.Prelude.{ℕ, ◌==◌, if◌then◌else◌, List, [], ◌∷◌, ◌++◌}
use Rattle.mx_body.specs.declared.chunked.place.ChunkedPlace.{ChunkedPlace}
use Rattle.mx_body.specs.declared.chunked.place.ChunkedPlace.TheVariants.{Data}
use Rattle.mx_body.specs.ChunkedPlace.{next_place}

-- a byte, where the place before it is within data
abbrev pub datum : ChunkedPlace → ℕ → List ℕ
datum (Data left) b = if left == 0 then [] else b ∷ []
datum _ b = []

-- the data among some bytes that are read from a place
unfoldable pub data_from : ℕ → ChunkedPlace → List ℕ → List ℕ
data_from limit place [] = []
data_from limit place (b ∷ bytes) = datum place b ++ data_from limit (next_place limit place b) bytes
