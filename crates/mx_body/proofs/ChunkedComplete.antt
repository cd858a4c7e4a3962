-- Where the bytes of the grammar lead.
use Rattle.std.proofs.Common.{◌≡◌, ℕ, ◌+◌, ◌*◌, ◌<◌, ◌≤◌, Bool, true, false, ◌==◌, ◌||◌, List, [], ◌∷◌, ◌++◌, refl, sym, ap, ◌∙◌, arith}
use Rattle.std.specs.Prelude.{All, flat_map}
use Rattle.std.specs.List.{AllPass}
use Rattle.std.proofs.lemmas.List.{append_assoc}
use Rattle.std.proofs.lemmas.List.Elements.{All-head, All-tail}
use Rattle.std.proofs.lemmas.Bool.Decides.{nat_tests}
use Rattle.std.specs.Char.{digit_value, is_ascii_hexdigit}
use Rattle.std.specs.Str.Parse.{digits_value, digits_value_after}
use Rattle.httparse.specs.Ascii.{crlf_bytes, semicolon}
use Rattle.httparse.specs.Grammar.{is_ows}
use Rattle.mx_body.specs.declared.chunked.place.ChunkedPlace.{ChunkedPlace}
use Rattle.mx_body.specs.declared.chunked.place.ChunkedPlace.TheVariants.{Start, Size, Extension, SizeLf, Data, DataCr, DataLf, TrailerStart, Trailer, TrailerLf, EndLf, Done}
use Rattle.mx_body.specs.Chunked.{is_line_byte, IsChunkSize, IsChunkExtension, ChunkOpening, opening_bytes, chunk_size, IsChunkOpening, Chunk, chunk_bytes, IsChunk, IsTrailer, ChunkedBody, chunks_bytes, chunked_bytes, IsChunkedBody, HasSizes}
use Rattle.mx_body.specs.ChunkedPlace.{in_line, after_line, next_place, place_after}
use Rattle.mx_body.proofs.ChunkedRun.{by_byte, place_after-append, data_all}

-- the bytes of one class, first and rest
pub pass_head : (p : ℕ → Bool) (b : ℕ) (bs : List ℕ) → AllPass p (b ∷ bs) → p b ≡ true
pass_head p b bs = All-head (λ x. p x ≡ true) b bs

pub pass_tail : (p : ℕ → Bool) (b : ℕ) (bs : List ℕ) → AllPass p (b ∷ bs) → AllPass p bs
pass_tail p b bs = All-tail (λ x. p x ≡ true) b bs

-- digits only make a number larger
pub digits_value_after-ge : (ds : List ℕ) (n : ℕ) → n ≤ digits_value_after 16 n ds
digits_value_after-ge [] n = omega arith
digits_value_after-ge (d ∷ ds) n = omega (arith, digits_value_after-ge ds (n * 16 + digit_value d))

-- what begins an extension is no digit
pub opens_no_digit : (b : ℕ) → (is_ows b || b == semicolon) ≡ true → is_ascii_hexdigit b ≡ false
opens_no_digit b is = grind (arith, nat_tests)

module _ (limit : ℕ) where
  step_first : (b : ℕ) → is_ascii_hexdigit b ≡ true → digit_value b ≤ limit → next_place limit Start b ≡ Size (digit_value b)
  step_first b hex fits = grind (arith, nat_tests)

  step_digit : (n b : ℕ) → is_ascii_hexdigit b ≡ true → n * 16 + digit_value b ≤ limit → next_place limit (Size n) b ≡ Size (n * 16 + digit_value b)
  step_digit n b hex fits = grind (arith, nat_tests)

  pub step_opens : (n b : ℕ) → is_ascii_hexdigit b ≡ false → (is_ows b || b == semicolon) ≡ true → next_place limit (Size n) b ≡ Extension n
  step_opens n b not_hex is = cc

  pub step_line : (b : ℕ) (on ends : ChunkedPlace) → is_line_byte b ≡ true → in_line b on ends ≡ on
  step_line b on ends is = grind (arith, nat_tests)

  run_digits : (ds : List ℕ) (n : ℕ) (rest : List ℕ) → AllPass is_ascii_hexdigit ds → digits_value_after 16 n ds ≤ limit
      → place_after limit (Size n) (ds ++ rest) ≡ place_after limit (Size (digits_value_after 16 n ds)) rest
  run_digits [] n rest hex fits = refl
  run_digits (d ∷ ds) n rest hex fits =
      let m = n * 16 + digit_value d in
      by_byte limit _ (Size m) d (ds ++ rest) (step_digit n d (pass_head is_ascii_hexdigit d ds hex) (omega (arith, digits_value_after-ge ds m)))
      ∙ run_digits ds m rest (pass_tail is_ascii_hexdigit d ds hex) fits

  pub run_size : (ds rest : List ℕ) → IsChunkSize ds → digits_value 16 ds ≤ limit
      → place_after limit Start (ds ++ rest) ≡ place_after limit (Size (digits_value 16 ds)) rest
  run_size [] rest is fits = absurd (omega (arith, is.0))
  run_size (d ∷ ds) rest is fits =
      let zero : 0 * 16 + digit_value d ≡ digit_value d = omega arith in
      by_byte limit Start (Size (digit_value d)) d (ds ++ rest) (step_first d (pass_head is_ascii_hexdigit d ds is.1) (omega (arith, digits_value_after-ge ds (0 * 16 + digit_value d))))
      ∙ ap (λ n. place_after limit (Size n) (ds ++ rest)) (sym zero)
      ∙ run_digits ds (0 * 16 + digit_value d) rest (pass_tail is_ascii_hexdigit d ds is.1) fits

  pub run_line : (bs : List ℕ) (n : ℕ) (rest : List ℕ) → AllPass is_line_byte bs → place_after limit (Extension n) (bs ++ rest) ≡ place_after limit (Extension n) rest
  run_line [] n rest is = refl
  run_line (b ∷ bs) n rest is =
      by_byte limit _ (Extension n) b (bs ++ rest) (step_line b (Extension n) (SizeLf n) (pass_head is_line_byte b bs is)) ∙ run_line bs n rest (pass_tail is_line_byte b bs is)

  pub run_extension : (extension : List ℕ) (n : ℕ) (rest : List ℕ) → IsChunkExtension extension
      → place_after limit (Size n) (extension ++ (crlf_bytes ++ rest)) ≡ place_after limit (after_line n) rest
  run_extension [] n rest is = by_byte limit (Size n) (SizeLf n) 13 _ refl ∙ by_byte limit (SizeLf n) (after_line n) 10 _ refl
  run_extension (b ∷ bs) n rest is =
      by_byte limit _ (Extension n) b _ (step_opens n b (opens_no_digit b is.0) is.0)
      ∙ run_line bs n _ is.1
      ∙ by_byte limit (Extension n) (SizeLf n) 13 _ refl
      ∙ by_byte limit (SizeLf n) (after_line n) 10 _ refl

  pub run_size_line : (l : ChunkOpening) (rest : List ℕ) → IsChunkOpening l → chunk_size l ≤ limit
      → place_after limit Start (opening_bytes l ++ rest) ≡ place_after limit (after_line (chunk_size l)) rest
  run_size_line l rest is fits =
      let regrouped : opening_bytes l ++ rest ≡ l.digits ++ (l.extension ++ (crlf_bytes ++ rest)) = simp append_assoc in
      ap (place_after limit Start) regrouped ∙ run_size l.digits _ is.digits fits ∙ run_extension l.extension _ rest is.extension

  pub after_some : (n : ℕ) → 0 < n → after_line n ≡ Data n
  after_some n some = grind (arith, nat_tests)

  pub run_chunk : (c : Chunk) (rest : List ℕ) → IsChunk c → chunk_size c.line ≤ limit → place_after limit Start (chunk_bytes c ++ rest) ≡ place_after limit Start rest
  run_chunk c rest is fits =
      let size = chunk_size c.line in
      let regrouped : chunk_bytes c ++ rest ≡ opening_bytes c.line ++ (c.bytes ++ (crlf_bytes ++ rest)) = append_assoc (opening_bytes c.line) _ rest ∙ ap (λ t. opening_bytes c.line ++ t) (append_assoc c.bytes crlf_bytes rest) in
      let some : 0 < size = omega (arith, is.sized, is.not_empty) in
      ap (place_after limit Start) regrouped
      ∙ run_size_line c.line _ is.line fits
      ∙ ap (λ p. place_after limit p (c.bytes ++ (crlf_bytes ++ rest))) (after_some size some)
      ∙ place_after-append limit (Data size) c.bytes _
      ∙ ap (λ p. place_after limit p (crlf_bytes ++ rest)) (data_all limit c.bytes size some (sym is.sized))
      ∙ by_byte limit DataCr DataLf 13 _ refl
      ∙ by_byte limit DataLf Start 10 _ refl

  pub run_chunks : (chunks : List Chunk) (rest : List ℕ) → All IsChunk chunks → All (λ c. chunk_size c.line ≤ limit) chunks
      → place_after limit Start (chunks_bytes chunks ++ rest) ≡ place_after limit Start rest
  run_chunks [] rest are fit = refl
  run_chunks (c ∷ chunks) rest are fit =
      ap (place_after limit Start) (append_assoc (chunk_bytes c) (chunks_bytes chunks) rest)
      ∙ run_chunk c _ (All-head IsChunk c chunks are) (All-head (λ (c : Chunk). chunk_size c.line ≤ limit) c chunks fit)
      ∙ run_chunks chunks rest (All-tail IsChunk c chunks are) (All-tail (λ (c : Chunk). chunk_size c.line ≤ limit) c chunks fit)

  pub run_trailer_bytes : (bs rest : List ℕ) → AllPass is_line_byte bs → place_after limit Trailer (bs ++ rest) ≡ place_after limit Trailer rest
  run_trailer_bytes [] rest is = refl
  run_trailer_bytes (b ∷ bs) rest is =
      by_byte limit Trailer Trailer b (bs ++ rest) (step_line b Trailer TrailerLf (pass_head is_line_byte b bs is)) ∙ run_trailer_bytes bs rest (pass_tail is_line_byte b bs is)

  run_trailer : (t rest : List ℕ) → IsTrailer t → place_after limit TrailerStart (t ++ (crlf_bytes ++ rest)) ≡ place_after limit TrailerStart rest
  run_trailer [] rest is = absurd (omega (arith, is.0))
  run_trailer (b ∷ bs) rest is =
      by_byte limit TrailerStart Trailer b _ (step_line b Trailer EndLf (pass_head is_line_byte b bs is.1))
      ∙ run_trailer_bytes bs _ (pass_tail is_line_byte b bs is.1)
      ∙ by_byte limit Trailer TrailerLf 13 _ refl
      ∙ by_byte limit TrailerLf TrailerStart 10 _ refl

  pub run_trailer_lines : (ts : List (List ℕ)) (rest : List ℕ) → All IsTrailer ts
      → place_after limit TrailerStart (flat_map (λ t. t ++ crlf_bytes) ts ++ rest) ≡ place_after limit TrailerStart rest
  run_trailer_lines [] rest are = refl
  run_trailer_lines (t ∷ ts) rest are =
      let later = flat_map (λ t. t ++ crlf_bytes) ts in
      let regrouped : ((t ++ crlf_bytes) ++ later) ++ rest ≡ t ++ (crlf_bytes ++ (later ++ rest)) = simp append_assoc in
      ap (place_after limit TrailerStart) regrouped ∙ run_trailer t _ (All-head IsTrailer t ts are) ∙ run_trailer_lines ts rest (All-tail IsTrailer t ts are)

  -- a body leads to the place after it
  pub run_body : (body : ChunkedBody) (rest : List ℕ) → IsChunkedBody body → HasSizes limit body
      → place_after limit Start (chunked_bytes body ++ rest) ≡ place_after limit Done rest
  run_body body rest is fit =
      let lines = flat_map (λ t. t ++ crlf_bytes) body.trailers in
      let regrouped : chunked_bytes body ++ rest ≡ chunks_bytes body.chunks ++ (opening_bytes body.last ++ (lines ++ (crlf_bytes ++ rest))) =
      append_assoc (chunks_bytes body.chunks) _ rest ∙ ap (λ t. chunks_bytes body.chunks ++ t) (append_assoc (opening_bytes body.last) _ rest ∙ ap (λ t. opening_bytes body.last ++ t) (append_assoc lines crlf_bytes rest)) in
      ap (place_after limit Start) regrouped
      ∙ run_chunks body.chunks _ is.chunks fit
      ∙ run_size_line body.last _ is.last (omega (arith, is.ends))
      ∙ ap (λ n. place_after limit (after_line n) (lines ++ (crlf_bytes ++ rest))) is.ends
      ∙ run_trailer_lines body.trailers _ is.trailers
      ∙ by_byte limit TrailerStart EndLf 13 _ refl
      ∙ by_byte limit EndLf Done 10 _ refl
