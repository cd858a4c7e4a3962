-- A reader of a chunked body that takes a byte at a time: its next place, and what it has passed. The grammar
-- of `Chunked` says what a body is; it is proved of the calls that run the reader that they keep to it.
use Rattle.std.specs.Prelude.{ℕ, ◌+◌, ◌-◌, ◌*◌, Bool, true, false, ◌||◌, List, [], ◌∷◌, ◌++◌, if◌then◌else◌, nat_le, ◌==◌, fold}
use Rattle.std.specs.Char.{digit_value, is_ascii_hexdigit}
use Rattle.httparse.specs.Ascii.{line_feed, carriage_return, semicolon}
use Rattle.httparse.specs.Grammar.{is_ows}
use Rattle.mx_body.specs.declared.part.Part.{Part}
use Rattle.mx_body.specs.declared.chunked.place.ChunkedPlace.{ChunkedPlace}
use Rattle.mx_body.specs.declared.chunked.place.ChunkedPlace.TheVariants.{Start, Size, Extension, SizeLf, Data, DataCr, DataLf, TrailerStart, Trailer, TrailerLf, EndLf, Done, Bad, TooLarge}

-- after a digit, by the size so far
abbrev pub sized : ℕ → ℕ → ChunkedPlace
sized limit size = if nat_le size limit then Size size else TooLarge

-- after a byte that follows the digits
abbrev pub after_digits : ℕ → ℕ → ChunkedPlace
after_digits size b =
    if is_ows b || b == semicolon then Extension size
    else (if b == carriage_return then SizeLf size else Bad)

-- after a byte of a line: it goes on, or its CR is there
abbrev pub in_line : ℕ → ChunkedPlace → ChunkedPlace → ChunkedPlace
in_line b on ends = if b == carriage_return then ends else (if b == line_feed then Bad else on)

-- after a byte where only one byte is allowed
abbrev pub expect : ℕ → ℕ → ChunkedPlace → ChunkedPlace
expect b wanted next = if b == wanted then next else Bad

-- after a size line: its data, or the trailer section
abbrev pub after_line : ℕ → ChunkedPlace
after_line size = if size == 0 then TrailerStart else Data size

-- after a byte
abbrev pub next_place : ℕ → ChunkedPlace → ℕ → ChunkedPlace
next_place limit Start b = if is_ascii_hexdigit b then sized limit (digit_value b) else Bad
next_place limit (Size size) b =
    if is_ascii_hexdigit b then sized limit (size * 16 + digit_value b) else after_digits size b
next_place limit (Extension size) b = in_line b (Extension size) (SizeLf size)
next_place limit (SizeLf size) b = expect b line_feed (after_line size)
next_place limit (Data left) b = if nat_le left 1 then DataCr else Data (left - 1)
next_place limit DataCr b = expect b carriage_return DataLf
next_place limit DataLf b = expect b line_feed Start
next_place limit TrailerStart b = in_line b Trailer EndLf
next_place limit Trailer b = in_line b Trailer TrailerLf
next_place limit TrailerLf b = expect b line_feed TrailerStart
next_place limit EndLf b = expect b line_feed Done
next_place limit Done b = Bad
next_place limit Bad b = Bad
next_place limit TooLarge b = TooLarge

-- after some bytes
unfoldable pub place_after : ℕ → ChunkedPlace → List ℕ → ChunkedPlace
place_after limit place bytes = fold (next_place limit) place bytes

-- the bytes so far settle what they are: a body, no prefix of one, or one with a size over the limit
abbrev pub is_settled : ChunkedPlace → Bool
is_settled Done = true
is_settled Bad = true
is_settled TooLarge = true
is_settled _ = false

-- how many bytes of data are still to come
abbrev pub data_left : ChunkedPlace → ℕ
data_left (Data left) = left
data_left _ = 0

-- the part that a byte begins, by the places before and after it, where `at` is the offset after it
abbrev pub begun : ChunkedPlace → ChunkedPlace → ℕ → List Part
begun (SizeLf size) (Data left) at = record { start = at; end = at + left } ∷ []
begun _ _ at = []

-- the parts that some bytes begin, the first of which is at the offset
unfoldable pub parts_begun : ℕ → ChunkedPlace → ℕ → List ℕ → List Part
parts_begun limit place at [] = []
parts_begun limit place at (b ∷ bytes) =
    let next = next_place limit place b in
    begun place next (at + 1) ++ parts_begun limit next (at + 1) bytes
