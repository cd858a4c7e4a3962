-- How the body of a response ends (RFC 9112, section 6.3), and whether its connection is kept
-- (RFC 9112, sections 6.1 and 9.3).
use Rattle.std.specs.Prelude.{ℕ, min, ◌^◌, ◌-◌, Bool, true, false, not, ◌&&◌, ◌||◌, List, [], ◌∷◌, length, if◌then◌else◌, nat_lt, ◌==◌, codes, Result, Ok, Err, filter}
use Rattle.std.specs.Char.{is_ascii_digit}
use Rattle.std.specs.List.{list_all, list_any}
use Rattle.std.specs.Str.Parse.{digits_value}
use Rattle.httparse.specs.Grammar.{ResponseHead, status_code}
use Rattle.mx_types.specs.Method.{is_head}
use Rattle.mx_types.specs.declared.code.Code.{Code}
use Rattle.mx_types.specs.declared.code.Code.TheVariants.{WeirdServerReply, BadContentEncoding}
use Rattle.mx_types.specs.declared.method.Method.{Method}
use Rattle.mx_head.specs.declared.types.Framing.{Framing}
use Rattle.mx_head.specs.declared.types.Framing.TheVariants.{Empty, Counted, Chunked, Close}
use Rattle.mx_head.specs.Fields.{lines_of, same_word, elements}

-- the status of an answer that has no body to any request
abbrev pub is_bodiless : ℕ → Bool
is_bodiless status = (status == 204) || (status == 304)

-- rule head-no-body: The response to a HEAD, and one with status 204 or 304, has no body, whatever its fields say.
abbrev pub has_no_body : Method → ℕ → Bool
has_no_body m status = is_head m || is_bodiless status

-- an element with nothing in it, which doesn't count in Transfer-Encoding (RFC 9110, section 5.6.1.2)
abbrev pub is_blank : List ℕ → Bool
is_blank [] = true
is_blank (first ∷ rest) = false

-- exactly one element, and it is `chunked`
abbrev pub is_chunked_alone : List (List ℕ) → Bool
is_chunked_alone [] = false
is_chunked_alone (e ∷ []) = same_word e (codes "chunked")
is_chunked_alone (e ∷ d ∷ es) = false

-- 1*DIGIT
abbrev pub is_number : List ℕ → Bool
is_number e = nat_lt 0 (length e) && list_all is_ascii_digit e

-- the digits of this number
abbrev pub is_number_of : ℕ → List ℕ → Bool
is_number_of n e = is_number e && (digits_value 10 e == n)

-- rule head-content-length: Content-Length may come several times, and as a list, where all elements are one number; an empty element is no
-- number: 8.
-- rule head-huge-length: A length past 64 bits counts as the greatest, so it is too large (63) and not bad.
abbrev pub by_length : List (List ℕ) → Result Framing Code
by_length [] = Ok Close
by_length (e ∷ es) =
    let n = digits_value 10 e in
    if is_number e && list_all (is_number_of n) es then Ok (Counted (min n (2 ^ 64 - 1)))
    else Err WeirdServerReply

-- the framing where `chunked` is the one coding (RFC 9112, section 7.1)
abbrev pub chunked_framing : Result Framing Code
chunked_framing = Ok Chunked

-- rule head-transfer-coding: Transfer-Encoding wins over Content-Length. Any but exactly one `chunked` is 61; in HTTP/1.0 it is 8.
--
-- the table of section 6.3, from the version and the elements of Transfer-Encoding and Content-Length
abbrev pub by_fields : ℕ → List (List ℕ) → List (List ℕ) → Result Framing Code
by_fields minor [] lengths = by_length lengths
by_fields minor (coding ∷ codings) lengths =
    if minor == 0 then Err WeirdServerReply
    else (if is_chunked_alone (filter (λ e. not (is_blank e)) (coding ∷ codings)) then chunked_framing
    else Err BadContentEncoding)

-- the framing of a response to that method with that head, or the fault of its framing
unfoldable pub framing_of : Method → ResponseHead → Result Framing Code
framing_of m h =
    if has_no_body m (status_code h) then Ok Empty
    else by_fields h.minor (elements (codes "transfer-encoding") (lines_of h))
    (elements (codes "content-length") (lines_of h))

-- one of the elements is the word, in any letter case
abbrev pub has_word : List ℕ → List (List ℕ) → Bool
has_word word es = list_any (λ e. same_word e word) es

-- the field has a line
abbrev pub is_there : List (List ℕ) → Bool
is_there [] = false
is_there (e ∷ es) = true

-- rule head-connection: A connection is kept unless `close` is said in any letter case; in HTTP/1.0 only with `keep-alive`; never with both
-- Transfer-Encoding and Content-Length, nor with Transfer-Encoding in HTTP/1.0.
--
-- the connection may serve another request after the response (RFC 9112, sections 6.1 and 9.3)
unfoldable pub keeps_of : ResponseHead → Bool
keeps_of h =
    let options = elements (codes "connection") (lines_of h) in
    let coded = is_there (elements (codes "transfer-encoding") (lines_of h)) in
    let sized = is_there (elements (codes "content-length") (lines_of h)) in
    not (has_word (codes "close") options)
    && (not (h.minor == 0) || has_word (codes "keep-alive") options)
    && not (coded && (sized || (h.minor == 0)))
