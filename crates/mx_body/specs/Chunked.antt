-- What a chunked body is (RFC 9112, section 7.1): the parts that it is made of, and the bytes that they make.
--
-- More is taken than the standard's grammar has, in two places: any bytes but CR and LF may follow a blank or `;` in a chunk's first line,
-- and be in a trailer line. The standard's own grammar is in `ChunkedRfc`.
use Rattle.std.specs.Prelude.{◌≡◌, ℕ, ◌+◌, ◌<◌, ◌≤◌, Bool, not, ◌||◌, ◌==◌, List, [], ◌∷◌, ◌++◌, length, All, IsTrue, flat_map}
use Rattle.std.specs.List.{AllPass}
use Rattle.std.specs.Char.{is_ascii_hexdigit}
use Rattle.std.specs.Str.Parse.{digits_value}
use Rattle.httparse.specs.Ascii.{line_feed, carriage_return, semicolon, crlf_bytes}
use Rattle.httparse.specs.Grammar.{is_ows}
use Rattle.mx_body.specs.declared.part.Part.{Part}

-- any byte but CR and LF
abbrev pub is_line_byte : ℕ → Bool
is_line_byte b = not (b == carriage_return || b == line_feed)

-- the digits of a size: 1*HEXDIG
abbrev pub IsChunkSize : List ℕ → Type 0
IsChunkSize digits = (0 < length digits) × AllPass is_ascii_hexdigit digits

-- what is between the digits and the CRLF of a chunk's first line: nothing, or SP, HTAB or `;` and then any
-- bytes but CR and LF
abbrev pub IsChunkExtension : List ℕ → Type 0
IsChunkExtension [] = Unit {0}
IsChunkExtension (b ∷ bytes) = IsTrue (is_ows b || b == semicolon) × AllPass is_line_byte bytes

-- The first line of a chunk: chunk-size [ chunk-ext ] CRLF.
pub record ChunkOpening : Type 0 where
  pub digits : List ℕ
  pub extension : List ℕ

pub record IsChunkOpening (l : ChunkOpening) : Type 0 where
  pub digits : IsChunkSize l.digits
  pub extension : IsChunkExtension l.extension

-- the number that its digits write in base 16
abbrev pub chunk_size : ChunkOpening → ℕ
chunk_size opening = digits_value 16 opening.digits

abbrev pub opening_bytes : ChunkOpening → List ℕ
opening_bytes opening = opening.digits ++ (opening.extension ++ crlf_bytes)

-- A chunk with data: those bytes, and the line that opens it.
pub record Chunk : Type 0 where
  pub bytes : List ℕ
  pub line : ChunkOpening

-- its line, its data, and CRLF
abbrev pub chunk_bytes : Chunk → List ℕ
chunk_bytes chunk = opening_bytes chunk.line ++ (chunk.bytes ++ crlf_bytes)

-- the size in its line is the number of its bytes, of which there is one at least
pub record IsChunk (c : Chunk) : Type 0 where
  pub not_empty : 0 < length c.bytes
  pub sized : chunk_size c.line ≡ length c.bytes
  pub line : IsChunkOpening c.line

-- a trailer line without its CRLF: one or more bytes other than CR and LF
abbrev pub IsTrailer : List ℕ → Type 0
IsTrailer bytes = (0 < length bytes) × AllPass is_line_byte bytes

-- *chunk last-chunk trailer-section CRLF, where last-chunk is a line alone
pub record ChunkedBody : Type 0 where
  pub chunks : List Chunk
  pub last : ChunkOpening
  pub trailers : List (List ℕ)

abbrev pub chunks_bytes : List Chunk → List ℕ
chunks_bytes chunks = flat_map chunk_bytes chunks

-- each trailer line with its CRLF, and the CRLF after them
abbrev pub trailers_bytes : List (List ℕ) → List ℕ
trailers_bytes trailers = flat_map (λ t. t ++ crlf_bytes) trailers ++ crlf_bytes

abbrev pub chunked_bytes : ChunkedBody → List ℕ
chunked_bytes body = chunks_bytes body.chunks ++ (opening_bytes body.last ++ trailers_bytes body.trailers)

-- each part is of its production, and the last line's size is 0
pub record IsChunkedBody (body : ChunkedBody) : Type 0 where
  pub chunks : All IsChunk body.chunks
  pub last : IsChunkOpening body.last
  pub ends : chunk_size body.last ≡ 0
  pub trailers : All IsTrailer body.trailers

-- no chunk has a size over the limit
abbrev pub HasSizes : ℕ → ChunkedBody → Type 0
HasSizes limit body = All (λ c. chunk_size c.line ≤ limit) body.chunks

-- the data of the chunks, in order
abbrev pub chunked_data : ChunkedBody → List ℕ
chunked_data body = flat_map (λ c. c.bytes) body.chunks

-- where the data of the chunks are, the first of which begins at `at`
abbrev pub chunk_parts : ℕ → List Chunk → List Part
chunk_parts at [] = []
chunk_parts at (c ∷ cs) =
    let start = at + length (opening_bytes c.line) in
    record { start = start; end = start + length c.bytes } ∷ chunk_parts (at + length (chunk_bytes c)) cs

-- the bytes are a chunked body with no size over the limit; where the body begins at `at`, its data are at these parts
abbrev pub IsChunked : ℕ → ℕ → List ℕ → List Part → List ℕ → Type 0
IsChunked limit at bytes parts data_bytes =
    (body : ChunkedBody) × IsChunkedBody body × HasSizes limit body × (bytes ≡ chunked_bytes body)
    × (parts ≡ chunk_parts at body.chunks) × (data_bytes ≡ chunked_data body)

-- rule body-chunk-framing: A byte that isn't allowed at its place in a chunked body is 56; a bare LF ends no line of its framing.
--
-- some bytes can follow that make these a chunked body, whatever its sizes
abbrev pub MayBecomeChunked : List ℕ → Type 0
MayBecomeChunked bytes =
    (body : ChunkedBody) × (more : List ℕ) × IsChunkedBody body × (bytes ++ more ≡ chunked_bytes body)

-- rule body-chunk-size: A chunk's size over 67,108,864 is 63, at the digit that passes it.
--
-- the bytes end in the digits of a chunk's size, as far as they are there, which is over the limit
abbrev pub EndsInLargeSize : ℕ → List ℕ → Type 0
EndsInLargeSize limit bytes =
    (chunks : List Chunk) × (digits : List ℕ) × All IsChunk chunks × IsChunkSize digits
    × (bytes ≡ chunks_bytes chunks ++ digits) × (limit < digits_value 16 digits)
