-- What is wrong where the bytes of an exchange are refused (RFC 9112, sections 2 to 7).
use Rattle.std.specs.Prelude.{◌≡◌, ℕ, ◌+◌, ◌-◌, ◌<◌, true, false, List, [], ◌++◌, length, take, Result, Ok, Err}
use Rattle.httparse.specs.Grammar.{ResponseHead, NeverHasResponse, print_response}
use Rattle.mx_types.specs.declared.code.Code.{Code}
use Rattle.mx_types.specs.declared.code.Code.TheVariants.{WeirdServerReply, RecvError, BadContentEncoding, FilesizeExceeded, TooLarge}
use Rattle.mx_types.specs.declared.method.Method.{Method}
use Rattle.mx_head.specs.declared.types.Framing.{Framing}
use Rattle.mx_head.specs.declared.types.Framing.TheVariants as framing
use Rattle.mx_head.specs.Framing.{framing_of}
use Rattle.mx_head.specs.Faults.{HasManyFields, IsLongHead}
use Rattle.mx_head.specs.Limits.{most_bytes}
use Rattle.mx_body.specs.declared.chunked.place.ChunkedPlace.{ChunkedPlace}
use Rattle.mx_body.specs.declared.chunked.place.ChunkedPlace.TheVariants as place
use Rattle.mx_body.specs.Chunked.{MayBecomeChunked, EndsInLargeSize}
use Rattle.mx_body.specs.ChunkedPlace.{place_after}
use Rattle.mx_body.specs.Response.{print_heads, StandsAtHead, StandsAtBody}
use Rattle.mx_body.specs.Causes.{refused_status, Meets}
use Rattle.mx_reason.specs.declared.reason.Fault.{Fault}
use Rattle.mx_reason.specs.declared.reason.Fault.TheVariants.{StatusLine, FieldLine, ManyFields, LongHead, InterimHead, BadFraming, OtherCoding, LongBody, LargeChunk, SizeLine, ChunkEnd, Trailer, ManyBytes}
use Rattle.mx_reason.specs.Lines.{is_behind, line_behind}

-- the code of a fault
abbrev pub fault_code : Fault → Code
fault_code StatusLine = WeirdServerReply
fault_code FieldLine = WeirdServerReply
fault_code ManyFields = TooLarge
fault_code LongHead = TooLarge
fault_code InterimHead = WeirdServerReply
fault_code BadFraming = WeirdServerReply
fault_code OtherCoding = BadContentEncoding
fault_code (LongBody n) = FilesizeExceeded
fault_code LargeChunk = FilesizeExceeded
fault_code SizeLine = RecvError
fault_code ChunkEnd = RecvError
fault_code Trailer = RecvError
fault_code ManyBytes = FilesizeExceeded

-- all bytes but the last
abbrev pub before_last : List ℕ → List ℕ
before_last bytes = take (length bytes - 1) bytes

-- What the last of the bytes r at the place of a head has made wrong: no head begins so, and it is in the status line or after it; it
-- begins a field line too many; or there are as many bytes as a head may have, and no head.
abbrev pub TellsOfHead : List ℕ → Fault → Type 0
TellsOfHead r StatusLine = NeverHasResponse r × (is_behind (line_behind (before_last r)) ≡ false)
TellsOfHead r FieldLine = NeverHasResponse r × (is_behind (line_behind (before_last r)) ≡ true)
TellsOfHead r ManyFields = HasManyFields r
TellsOfHead r LongHead = IsLongHead r
TellsOfHead r _ = ⊥

-- the part of a chunked body that a byte at this place belongs to
abbrev pub chunk_fault : ChunkedPlace → Fault
chunk_fault place.Start = SizeLine
chunk_fault (place.Size size) = SizeLine
chunk_fault (place.Extension size) = SizeLine
chunk_fault (place.SizeLf size) = SizeLine
chunk_fault (place.Data left) = ChunkEnd
chunk_fault place.DataCr = ChunkEnd
chunk_fault place.DataLf = ChunkEnd
chunk_fault place.TrailerStart = Trailer
chunk_fault place.Trailer = Trailer
chunk_fault place.TrailerLf = Trailer
chunk_fault place.EndLf = Trailer
chunk_fault place.Done = Trailer
chunk_fault place.Bad = Trailer
chunk_fault place.TooLarge = Trailer

-- the last byte of r belongs to this part
abbrev pub EndsInPart : List ℕ → Fault → Type 0
EndsInPart r fault = chunk_fault (place_after most_bytes place.Start (before_last r)) ≡ fault

-- What the last of the bytes r of a chunked body has made wrong: a chunk's size is too large; or no chunked body begins so any more, and
-- that byte belongs to this part of one.
abbrev pub TellsOfChunks : List ℕ → Fault → Type 0
TellsOfChunks r LargeChunk = EndsInLargeSize most_bytes r
TellsOfChunks r SizeLine = ¬ (MayBecomeChunked r) × EndsInPart r SizeLine
TellsOfChunks r ChunkEnd = ¬ (MayBecomeChunked r) × EndsInPart r ChunkEnd
TellsOfChunks r Trailer = ¬ (MayBecomeChunked r) × EndsInPart r Trailer
TellsOfChunks r _ = ⊥

-- what is wrong with a framing that is refused with a code
abbrev pub framing_fault : Code → Fault
framing_fault BadContentEncoding = OtherCoding
framing_fault _ = BadFraming

-- What is wrong at the end of a final head that asks for this framing and ends at the offset `at`, where no byte r follows it; or what the
-- last of the bytes r after it has made wrong.
abbrev pub TellsOfBody : Result Framing Code → ℕ → List ℕ → Fault → Type 0
TellsOfBody asked at r BadFraming = (r ≡ []) × (asked ≡ Err WeirdServerReply)
TellsOfBody asked at r OtherCoding = (r ≡ []) × (asked ≡ Err BadContentEncoding)
TellsOfBody asked at r (LongBody n) = (r ≡ []) × (asked ≡ Ok (framing.Counted n)) × (most_bytes < at + n)
TellsOfBody asked at r LargeChunk = (asked ≡ Ok framing.Chunked) × TellsOfChunks r LargeChunk
TellsOfBody asked at r SizeLine = (asked ≡ Ok framing.Chunked) × TellsOfChunks r SizeLine
TellsOfBody asked at r ChunkEnd = (asked ≡ Ok framing.Chunked) × TellsOfChunks r ChunkEnd
TellsOfBody asked at r Trailer = (asked ≡ Ok framing.Chunked) × TellsOfChunks r Trailer
TellsOfBody asked at r _ = ⊥

-- rule reason-refused
-- What is wrong at the end of the bytes p, and in which part of a response that is: in a head after interim heads; at the end of a head
-- that is refused by its status; at the end of the final head or in its body; or after all bytes that a response may have.
pub data Tells (m : Method) (p : List ℕ) (fault : Fault) : Type 0 where
  in_head : (hs : List ResponseHead) (r : List ℕ) → StandsAtHead p hs r → TellsOfHead r fault → Tells m p fault
  at_status : Meets m p refused_status → fault ≡ InterimHead → Tells m p fault
  in_body : (hs : List ResponseHead) (h : ResponseHead) (r : List ℕ) → StandsAtBody p hs h r
      → TellsOfBody (framing_of m h) (length (print_heads hs ++ print_response h)) r fault → Tells m p fault
  behind_all : length p ≡ most_bytes + 1 → fault ≡ ManyBytes → Tells m p fault
