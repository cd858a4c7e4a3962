-- What is kept of a head, which is what contracts see of a `Head`, and the rules of framing and of keeping from that.
use Rattle.std.specs.Prelude.{◌≡◌, ℕ, min, ◌^◌, ◌-◌, Bool, true, false, not, ◌&&◌, ◌||◌, List, [], ◌∷◌, if◌then◌else◌, ◌==◌, Result, Ok, Err, Option, Some, None, filter, length, codes}
use Rattle.std.specs.List.{list_all}
use Rattle.std.specs.Str.Parse.{digits_value}
use Rattle.httparse.specs.Grammar.{ResponseHead, print_response, status_code}
use Rattle.httparse.specs.Spans.{IsWithin, span_bytes}
use Rattle.httparse.specs.declared.spans.Span.{Span}
use Rattle.mx_types.specs.declared.code.Code.{Code}
use Rattle.mx_types.specs.declared.code.Code.TheVariants.{WeirdServerReply, BadContentEncoding}
use Rattle.mx_types.specs.declared.method.Method.{Method}
use Rattle.mx_head.specs.declared.types.Framing.{Framing}
use Rattle.mx_head.specs.declared.types.Framing.TheVariants.{Empty, Counted, Close}
use Rattle.mx_head.specs.declared.types.Coding.{Coding}
use Rattle.mx_head.specs.declared.types.Coding.TheVariants as coding
use Rattle.mx_head.specs.declared.types.Length.{Length}
use Rattle.mx_head.specs.declared.types.Length.TheVariants as sized
use Rattle.mx_head.specs.Fields.{lines_of, elements, location_of}
use Rattle.mx_head.specs.Framing.{has_no_body, has_word, is_blank, is_chunked_alone, is_number, is_number_of, chunked_framing}

-- the bytes of the head, its status, its minor version, the results of Transfer-Encoding and Content-Length, whether Connection has `close`
-- and `keep-alive`, and where the location is
pub record Summary : Type 0 where
  pub len : ℕ
  pub status : ℕ
  pub minor : ℕ
  pub coding : Coding
  pub length : Length
  pub close : Bool
  pub keep_alive : Bool
  pub location : Option Span

-- the result of the elements of Transfer-Encoding
abbrev pub coding_of : List (List ℕ) → Coding
coding_of [] = coding.Absent
coding_of (e ∷ es) =
    if is_chunked_alone (filter (λ x. not (is_blank x)) (e ∷ es)) then coding.Chunked else coding.Other

-- the result of the elements of Content-Length
abbrev pub length_of : List (List ℕ) → Length
length_of [] = sized.Absent
length_of (e ∷ es) =
    let n = digits_value 10 e in
    if is_number e && list_all (is_number_of n) es then sized.Counted (min n (2 ^ 64 - 1)) else sized.Invalid

-- the framing by what was kept of Content-Length
abbrev pub by_length_kept : Length → Result Framing Code
by_length_kept sized.Absent = Ok Close
by_length_kept (sized.Counted n) = Ok (Counted n)
by_length_kept sized.Invalid = Err WeirdServerReply

-- the framing by what was kept of Transfer-Encoding
abbrev pub by_coding : Coding → Result Framing Code
by_coding coding.Absent = Err BadContentEncoding
by_coding coding.Chunked = chunked_framing
by_coding coding.Other = Err BadContentEncoding

-- the same, where HTTP/1.0 has no transfer codings
abbrev pub by_coded : ℕ → Coding → Result Framing Code
by_coded minor coding = if minor == 0 then Err WeirdServerReply else by_coding coding

-- the framing by what was kept of both fields
abbrev pub by_kept : ℕ → Coding → Length → Result Framing Code
by_kept minor coding.Absent length = by_length_kept length
by_kept minor coding.Chunked length = by_coded minor coding.Chunked
by_kept minor coding.Other length = by_coded minor coding.Other

-- Transfer-Encoding has a line
abbrev pub is_coded : Coding → Bool
is_coded coding.Absent = false
is_coded coding.Chunked = true
is_coded coding.Other = true

-- Content-Length has a line
abbrev pub is_sized : Length → Bool
is_sized sized.Absent = false
is_sized (sized.Counted n) = true
is_sized sized.Invalid = true

-- the framing of a response to that method whose head has this summary
abbrev pub framing_by : Method → Summary → Result Framing Code
framing_by m x = if has_no_body m x.status then Ok Empty else by_kept x.minor x.coding x.length

-- whether its connection may serve another request
abbrev pub keeps_by : Summary → Bool
keeps_by x =
    not x.close && (not (x.minor == 0) || x.keep_alive)
    && not (is_coded x.coding && (is_sized x.length || (x.minor == 0)))

-- there is a span exactly where there is a value, and it covers bytes of the text that are the value
abbrev pub StandsAt : List ℕ → Option Span → Option (List ℕ) → Type 0
StandsAt text None None = Unit {0}
StandsAt text (Some s) (Some value) = IsWithin (length text) s × (span_bytes text s ≡ value)
StandsAt text _ _ = ⊥

-- x is the summary of the head h
pub record Describes (x : Summary) (h : ResponseHead) : Type 0 where
  pub len : x.len ≡ length (print_response h)
  pub status : x.status ≡ status_code h
  pub minor : x.minor ≡ h.minor
  pub coding : x.coding ≡ coding_of (elements (codes "transfer-encoding") (lines_of h))
  pub length : x.length ≡ length_of (elements (codes "content-length") (lines_of h))
  pub close : x.close ≡ has_word (codes "close") (elements (codes "connection") (lines_of h))
  pub keep_alive : x.keep_alive ≡ has_word (codes "keep-alive") (elements (codes "connection") (lines_of h))
  pub location : StandsAt (print_response h) x.location (location_of h)
