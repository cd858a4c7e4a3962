-- Laws of the definitions of chunked bodies, each the contract of a function of `chunked::laws`.
use Rattle.std.specs.Prelude.{false, ◌≡◌, ℕ, ◌+◌, ◌<◌, List, [], ◌∷◌, ◌++◌, length, All, codes}
use Rattle.mx_body.specs.declared.part.Part.{Part}
use Rattle.mx_body.specs.Parts.{AreOrdered, joined}
use Rattle.mx_body.specs.declared.chunked.scan.ChunkedScan.{ChunkedScan}
use Rattle.mx_body.specs.Chunked.{IsChunkSize, IsChunkExtension, IsChunkOpening, ChunkOpening, chunk_size, opening_bytes, Chunk, IsChunk, ChunkedBody, IsChunkedBody, HasSizes, chunks_bytes, chunked_bytes, IsChunked, MayBecomeChunked, EndsInLargeSize}
use Rattle.mx_body.specs.ChunkedScan.{IsUndecidedChunked, IsChunkedScan}
use Rattle.mx_body.specs.declared.chunked.place.ChunkedPlace.TheVariants.{Start, Done, Bad, TooLarge}
use Rattle.mx_body.specs.ChunkedPlace.{place_after, is_settled, parts_begun}
use Rattle.mx_body.specs.ChunkedRfc.{IsRfcChunked, HasRfcText}

-- the grammar is unambiguous, and no chunked body is a proper prefix of another: two at the front of one text are one tree
abbrev pub OneBodyPerText : Type 0
OneBodyPerText =
    (body other : ChunkedBody) (rest later : List ℕ) → IsChunkedBody body → IsChunkedBody other
    → chunked_bytes body ++ rest ≡ chunked_bytes other ++ later → (body ≡ other) × (rest ≡ later)

-- so it is with the parts and the data
abbrev pub OneReadingPerText : Type 0
OneReadingPerText =
    (limit higher at : ℕ) (bytes more : List ℕ) (parts others : List Part) (data_bytes other_bytes : List ℕ)
    → IsChunked limit at bytes parts data_bytes → IsChunked higher at (bytes ++ more) others other_bytes
    → (more ≡ []) × (parts ≡ others) × (data_bytes ≡ other_bytes)

-- the parts are within the body, in order, none is empty, and their bytes are the data
abbrev pub PartsAreData : Type 0
PartsAreData =
    (limit : ℕ) (front bytes back : List ℕ) (parts : List Part) (data_bytes : List ℕ)
    → IsChunked limit (length front) bytes parts data_bytes
    → AreOrdered (length front) (length front + length bytes) parts
    × (joined (front ++ (bytes ++ back)) parts ≡ data_bytes)

-- nothing within a body is wrong: each of its prefixes may become one, and ends in no size over the limit
abbrev pub BodyIsSound : Type 0
BodyIsSound =
    (limit : ℕ) (body : ChunkedBody) (front rest : List ℕ) → IsChunkedBody body → HasSizes limit body
    → chunked_bytes body ≡ front ++ rest → MayBecomeChunked front × ¬ (EndsInLargeSize limit front)

-- a size over the limit is no bad byte
abbrev pub LargeMayBecome : Type 0
LargeMayBecome = (limit : ℕ) (bytes : List ℕ) → EndsInLargeSize limit bytes → MayBecomeChunked bytes

-- an input has one answer
abbrev pub OneScanPerInput : Type 0
OneScanPerInput =
    (limit : ℕ) (input : List ℕ) (scan other : ChunkedScan) → IsChunkedScan limit input scan → IsChunkedScan limit input other
    → scan ≡ other

-- each chunked body of the standard's own grammar is one here, with the same data
abbrev pub RfcIsChunked : Type 0
RfcIsChunked =
    (limit at : ℕ) (bytes data_bytes : List ℕ) → IsRfcChunked limit bytes data_bytes
    → (parts : List Part) × IsChunked limit at bytes parts data_bytes

-- and each one here whose extensions and trailers are the standard's is one of the standard, with the same data
abbrev pub ChunkedIsRfc : Type 0
ChunkedIsRfc =
    (limit at : ℕ) (bytes data_bytes : List ℕ) (parts : List Part) (chunked : IsChunked limit at bytes parts data_bytes)
    → HasRfcText chunked.0 → IsRfcChunked limit bytes data_bytes

-- a size line ends in no bare LF: not right after the digits, and not in or after an extension
abbrev pub NoBareLfInSizeLine : Type 0
NoBareLfInSizeLine =
    (chunks : List Chunk) (digits extension rest : List ℕ) → All IsChunk chunks → IsChunkSize digits → IsChunkExtension extension
    → ¬ (MayBecomeChunked (chunks_bytes chunks ++ (digits ++ (extension ++ 10 ∷ rest))))

-- CRLF follows the data of a chunk
abbrev pub CrlfBehindData : Type 0
CrlfBehindData =
    (chunks : List Chunk) (line : ChunkOpening) (bytes : List ℕ) (b c : ℕ) (rest : List ℕ) → All IsChunk chunks → IsChunkOpening line
    → 0 < chunk_size line → chunk_size line ≡ length bytes
    → MayBecomeChunked (chunks_bytes chunks ++ (opening_bytes line ++ (bytes ++ b ∷ c ∷ rest))) → (b ≡ 13) × (c ≡ 10)

-- worked cases: `5\n`, `0\r\n\n` and `0\r\na:b\n` begin no chunked body, whatever follows
abbrev pub BareLfExamples : Type 0
BareLfExamples =
    (rest : List ℕ) → ¬ (MayBecomeChunked (codes "5\n" ++ rest)) × ¬ (MayBecomeChunked (codes "0\r\n\n" ++ rest))
    × ¬ (MayBecomeChunked (codes "0\r\na:b\n" ++ rest))

-- what the places of a reader say of the bytes read, by the grammar alone: they are a body, and the parts begun are its parts
abbrev pub DoneIsWhole : Type 0
DoneIsWhole =
    (limit at : ℕ) (bytes : List ℕ) → place_after limit Start bytes ≡ Done
    → (data_bytes : List ℕ) × IsChunked limit at bytes (parts_begun limit Start at bytes) data_bytes

-- and each body leads there
abbrev pub WholeIsDone : Type 0
WholeIsDone =
    (limit : ℕ) (body : ChunkedBody) → IsChunkedBody body → HasSizes limit body → place_after limit Start (chunked_bytes body) ≡ Done

-- while nothing is settled, nothing is decided
abbrev pub OpenIsUndecided : Type 0
OpenIsUndecided =
    (limit : ℕ) (bytes : List ℕ) → is_settled (place_after limit Start bytes) ≡ false → IsUndecidedChunked limit bytes

-- the byte that makes the bytes bad, or a size too large
abbrev pub BadIsNoBody : Type 0
BadIsNoBody = (limit : ℕ) (bytes : List ℕ) → place_after limit Start bytes ≡ Bad → ¬ (MayBecomeChunked bytes)

abbrev pub TooLargeIsLarge : Type 0
TooLargeIsLarge =
    (limit : ℕ) (bytes : List ℕ) (b : ℕ) → is_settled (place_after limit Start bytes) ≡ false
    → place_after limit Start (bytes ++ b ∷ []) ≡ TooLarge → EndsInLargeSize limit (bytes ++ b ∷ [])
