-- The laws of chunked bodies.
use Rattle.std.proofs.Common.{◌≡◌, ℕ, ◌+◌, ◌-◌, ◌≤◌, Bool, true, false, cond, eqb, List, [], ◌∷◌, ◌++◌, length, take, drop, refl, sym, ap, ◌∙◌, subst, ⊎_elim, arith}
use Rattle.std.specs.Prelude.{All, flat_map, slice_range, codes}
use Rattle.std.proofs.lemmas.List.{append_assoc, append-nil, length-append}
use Rattle.std.proofs.lemmas.List.Elements.{All-head, All-tail}
use Rattle.std.proofs.lemmas.Bool.{eqb-true}
use Rattle.std.specs.Str.Parse.{digits_value}
use Rattle.httparse.specs.Ascii.{crlf_bytes}
use Rattle.mx_body.specs.declared.part.Part.{Part}
use Rattle.mx_body.specs.declared.chunked.scan.ChunkedScan.TheVariants as scan
use Rattle.mx_body.specs.declared.chunked.place.ChunkedPlace.{ChunkedPlace}
use Rattle.mx_body.specs.declared.chunked.place.ChunkedPlace.TheVariants.{Start, Size, Extension, Data, DataCr, DataLf, Done, Bad, TooLarge}
use Rattle.mx_body.specs.Chunked.{IsChunkExtension, opening_bytes, chunk_size, Chunk, IsChunk, chunk_bytes, ChunkedBody, chunks_bytes, trailers_bytes, chunked_bytes, chunked_data, chunk_parts, MayBecomeChunked}
use Rattle.mx_body.specs.ChunkedPlace.{expect, next_place, place_after, is_settled}
use Rattle.mx_body.specs.ChunkedScan.{IsUndecidedChunked, NeverHasChunked, IsChunkedScan}
use Rattle.mx_body.specs.Parts.{AreOrdered, joined}
use Rattle.mx_body.specs.ChunkedLaws.{OneBodyPerText, OneReadingPerText, PartsAreData, BodyIsSound, LargeMayBecome, OneScanPerInput, NoBareLfInSizeLine, CrlfBehindData, BareLfExamples, DoneIsWhole, WholeIsDone}
use Rattle.mx_body.proofs.ChunkedRun.{place_after-nil, place_after-append, by_byte, data_all, bad_stays, too_large_stays}
use Rattle.mx_body.proofs.ChunkedComplete.{run_size, run_line, run_size_line, run_chunks, run_body, step_opens, opens_no_digit, after_some}
use Rattle.mx_body.proofs.ChunkedLemmas.{done_reads, sizes_fit, large_leads, large_is, bad_never, open_is_undecided, cut}
use Rattle.mx_body.proofs.ChunkedUnique.{body_unique}

pub one_body : OneBodyPerText
one_body body other rest later is too e = body_unique body other rest later is too e

pub one_reading : OneReadingPerText
one_reading limit higher at bytes more parts others data_bytes other_bytes (body, is, small, text, parts_are, data_is) (other, too, fits, texts, others_are, other_is) =
    let e : chunked_bytes body ++ more ≡ chunked_bytes other ++ [] = ap (λ t. t ++ more) (sym text) ∙ texts ∙ sym (append-nil (chunked_bytes other)) in
    let same = body_unique body other more [] is too e in (
      same.1,
      parts_are ∙ ap (λ (b : ChunkedBody). chunk_parts at b.chunks) same.0 ∙ sym others_are,
      data_is ∙ ap chunked_data same.0 ∙ sym other_is,
    )

-- parts after an offset are after each offset before it
ordered_from : (parts : List Part) (low from to : ℕ) → low ≤ from → AreOrdered from to parts → AreOrdered low to parts
ordered_from [] low from to below h = omega arith
ordered_from (p ∷ parts) low from to below h = (omega (arith, h.0), h.1, h.2)

parts_ordered : (chunks : List Chunk) (at to : ℕ) → All IsChunk chunks → at + length (chunks_bytes chunks) ≤ to → AreOrdered at to (chunk_parts at chunks)
parts_ordered [] at to are fits = omega arith
parts_ordered (c ∷ chunks) at to are fits =
    let is = All-head IsChunk c chunks are in
    let some = is.not_empty in
    let line = length (opening_bytes c.line) in
    let whole : length (chunk_bytes c) ≡ line + (length c.bytes + 2) = length-append (opening_bytes c.line) (c.bytes ++ crlf_bytes) ∙ ap (λ n. line + n) (length-append c.bytes crlf_bytes) in
    let all = length-append (chunk_bytes c) (chunks_bytes chunks) in
    let rest = parts_ordered chunks (at + length (chunk_bytes c)) to (All-tail IsChunk c chunks are) (omega arith) in
    (omega arith, omega arith, ordered_from (chunk_parts (at + length (chunk_bytes c)) chunks) (at + line + length c.bytes) (at + length (chunk_bytes c)) to (omega arith) rest)

-- a text between two others
slice_between : (front text back : List ℕ) → slice_range (front ++ (text ++ back)) (length front) (length front + length text) ≡ text
slice_between front text back =
    let len : length front + length text - length front ≡ length text = omega arith in
    ap (λ k. take k (drop (length front) (front ++ (text ++ back)))) len ∙ ap (take (length text)) (past front (text ++ back)) ∙ up_to text back
  where
    past : (xs ys : List ℕ) → drop (length xs) (xs ++ ys) ≡ ys
    past [] ys = refl
    past (x ∷ xs) ys = past xs ys

    up_to : (xs ys : List ℕ) → take (length xs) (xs ++ ys) ≡ xs
    up_to [] ys = refl
    up_to (x ∷ xs) ys = ap (λ t. x ∷ t) (up_to xs ys)

parts_cover : (text front : List ℕ) (at : ℕ) (chunks : List Chunk) (back : List ℕ) → at ≡ length front → text ≡ front ++ (chunks_bytes chunks ++ back)
    → joined text (chunk_parts at chunks) ≡ flat_map (λ (c : Chunk). c.bytes) chunks
parts_cover text front at [] back e is = refl
parts_cover text front at (c ∷ chunks) back e is =
    let line = opening_bytes c.line in
    let later = chunks_bytes chunks ++ back in
    let here : text ≡ (front ++ line) ++ (c.bytes ++ (crlf_bytes ++ later)) = is ∙ before line c.bytes (chunks_bytes chunks) in
    let next : text ≡ (front ++ chunk_bytes c) ++ later = is ∙ behind (chunk_bytes c) (chunks_bytes chunks) in
    let start : at + length line ≡ length (front ++ line) = omega (arith, e, length-append front line) in
    let one : slice_range text (at + length line) (at + length line + length c.bytes) ≡ c.bytes =
    ap (λ t. slice_range t (at + length line) (at + length line + length c.bytes)) here
    ∙ ap (λ n. slice_range ((front ++ line) ++ (c.bytes ++ (crlf_bytes ++ later))) n (n + length c.bytes)) start
    ∙ slice_between (front ++ line) c.bytes (crlf_bytes ++ later) in
    let rest = parts_cover text (front ++ chunk_bytes c) (at + length (chunk_bytes c)) chunks back (omega (arith, e, length-append front (chunk_bytes c))) next in
    ap (λ t. t ++ joined text (chunk_parts (at + length (chunk_bytes c)) chunks)) one ∙ ap (λ t. c.bytes ++ t) rest
  where
    before : (line bytes later : List ℕ) → front ++ (((line ++ (bytes ++ crlf_bytes)) ++ later) ++ back) ≡ (front ++ line) ++ (bytes ++ (crlf_bytes ++ (later ++ back)))
    before line bytes later = simp append_assoc

    behind : (chunk later : List ℕ) → front ++ ((chunk ++ later) ++ back) ≡ (front ++ chunk) ++ (later ++ back)
    behind chunk later = simp append_assoc

pub parts_are_the_data : PartsAreData
parts_are_the_data limit front bytes back parts data_bytes (body, is, small, text, parts_are, data_is) =
    let tail = opening_bytes body.last ++ trailers_bytes body.trailers in
    let at = length front in
    let whole : length (chunked_bytes body) ≡ length (chunks_bytes body.chunks) + length tail = length-append (chunks_bytes body.chunks) tail in
    let stands : front ++ (bytes ++ back) ≡ front ++ (chunks_bytes body.chunks ++ (tail ++ back)) =
    ap (λ t. front ++ (t ++ back)) text ∙ ap (λ t. front ++ t) (append_assoc (chunks_bytes body.chunks) tail back) in (
      subst (AreOrdered at (at + length bytes)) (sym parts_are) (parts_ordered body.chunks at (at + length bytes) is.chunks (omega (arith, ap length text))),
      ap (joined (front ++ (bytes ++ back))) parts_are ∙ parts_cover (front ++ (bytes ++ back)) front at body.chunks (tail ++ back) refl stands ∙ sym data_is,
    )

-- a prefix of a body
pub body_is_sound : BodyIsSound
body_is_sound limit body front rest is small e = (
  (body, rest, is, sym e),
  λ large.
      let done : place_after limit Start (chunked_bytes body) ≡ Done = ap (place_after limit Start) (sym (append-nil (chunked_bytes body))) ∙ run_body limit body [] is small ∙ place_after-nil limit Done in
      let over : place_after limit Start (chunked_bytes body) ≡ TooLarge = ap (place_after limit Start) e ∙ place_after-append limit Start front rest ∙ ap (λ p. place_after limit p rest) (large_is limit front large) ∙ too_large_stays limit rest in
      cc,
)

pub large_may_become : LargeMayBecome
large_may_become limit bytes large =
    let high = digits_value 16 large.1 + length (chunks_bytes large.0) in
    let leads = large_leads limit bytes high large (omega arith) in
    (open_is_undecided high bytes (ap is_settled leads)).may_become

-- a prefix of what may become a body may
front_may : (front rest : List ℕ) → MayBecomeChunked (front ++ rest) → MayBecomeChunked front
front_may front rest (body, more, is, e) = (body, rest ++ more, is, sym (append_assoc front rest more) ∙ e)

module _ (limit : ℕ) (input : List ℕ) where
  abbrev IsWhole : ℕ → Type 0
  IsWhole n = IsChunkedScan limit input (scan.Whole n)

  abbrev IsLarge : Type 0
  IsLarge = IsChunkedScan limit input scan.TooLarge

  abbrev IsBad : Type 0
  IsBad = IsChunkedScan limit input scan.Bad

  whole_or_short : (n : ℕ) → IsWhole n → ¬ (IsUndecidedChunked limit input)
  whole_or_short n (body, rest, begins, len) u = u.not_whole body rest begins.0 begins.2

  whole_or_never : (n : ℕ) → IsWhole n → ¬ (NeverHasChunked limit input)
  whole_or_never n (body, rest, begins, len) never = never [] body rest (begins.0, begins.1, append-nil input ∙ begins.2)

  short_or_large : IsUndecidedChunked limit input → ¬ IsLarge
  short_or_large u ((front, b, rest, is, undecided, ends), never) = u.small (front ++ b ∷ []) rest (is ∙ sym (append_assoc front (b ∷ []) rest)) ends

  short_or_bad : IsUndecidedChunked limit input → ¬ IsBad
  short_or_bad u ((front, b, rest, is, undecided, not_one), never) =
      not_one (front_may (front ++ b ∷ []) rest (subst MayBecomeChunked (is ∙ sym (append_assoc front (b ∷ []) rest)) u.may_become))

  large_or_bad : IsLarge → ¬ IsBad
  large_or_bad ((front, b, rest, is, undecided, ends), never) ((other, d, later, too, open_there, not_one), never') =
      let both : (front ++ b ∷ []) ++ rest ≡ other ++ d ∷ later = append_assoc front (b ∷ []) rest ∙ sym is ∙ too in
      ⊎_elim (λ w. open_there.small (front ++ b ∷ []) w.0 w.1 ends)
      (λ w. not_one (front_may (other ++ d ∷ []) w.0 (subst MayBecomeChunked w.1 (large_may_become limit (front ++ b ∷ []) ends))))
      (cut limit (front ++ b ∷ []) rest other later d both)

  one_whole : (n m : ℕ) → IsWhole n → IsWhole m → n ≡ m
  one_whole n m (body, rest, begins, len) (other, later, starts, long) =
      let same = body_unique body other rest later begins.0 starts.0 (sym begins.2 ∙ starts.2) in
      len ∙ ap (λ (b : ChunkedBody). length (chunked_bytes b)) same.0 ∙ sym long

pub one_scan_each : OneScanPerInput
one_scan_each limit input (scan.Whole n) (scan.Whole m) h k = ap scan.Whole (one_whole limit input n m h k)
one_scan_each limit input (scan.Whole n) scan.Short h k = absurd (whole_or_short limit input n h k)
one_scan_each limit input (scan.Whole n) scan.TooLarge h k = absurd (whole_or_never limit input n h k.1)
one_scan_each limit input (scan.Whole n) scan.Bad h k = absurd (whole_or_never limit input n h k.1)
one_scan_each limit input scan.Short (scan.Whole m) h k = absurd (whole_or_short limit input m k h)
one_scan_each limit input scan.Short scan.Short h k = refl
one_scan_each limit input scan.Short scan.TooLarge h k = absurd (short_or_large limit input h k)
one_scan_each limit input scan.Short scan.Bad h k = absurd (short_or_bad limit input h k)
one_scan_each limit input scan.TooLarge (scan.Whole m) h k = absurd (whole_or_never limit input m k h.1)
one_scan_each limit input scan.TooLarge scan.Short h k = absurd (short_or_large limit input k h)
one_scan_each limit input scan.TooLarge scan.TooLarge h k = refl
one_scan_each limit input scan.TooLarge scan.Bad h k = absurd (large_or_bad limit input h k)
one_scan_each limit input scan.Bad (scan.Whole m) h k = absurd (whole_or_never limit input m k h.1)
one_scan_each limit input scan.Bad scan.Short h k = absurd (short_or_bad limit input k h)
one_scan_each limit input scan.Bad scan.TooLarge h k = absurd (large_or_bad limit input k h)
one_scan_each limit input scan.Bad scan.Bad h k = refl

-- a bare LF after the digits of a size line or its extension
pub no_bare_lf : NoBareLfInSizeLine
no_bare_lf chunks digits extension rest are is_size is_extension =
    let size = digits_value 16 digits in
    let limit = length (chunks_bytes chunks) + size in
    bad_never limit _
    (run_chunks limit chunks _ are (sizes_fit chunks limit are (omega arith))
    ∙ run_size limit digits _ is_size (omega arith)
    ∙ to_bad limit size extension is_extension)
  where
    to_bad : (limit size : ℕ) (extension : List ℕ) → IsChunkExtension extension → place_after limit (Size size) (extension ++ 10 ∷ rest) ≡ Bad
    to_bad limit size [] is = by_byte limit (Size size) Bad 10 rest refl ∙ bad_stays limit rest
    to_bad limit size (b ∷ bytes) is =
        by_byte limit _ (Extension size) b _ (step_opens limit size b (opens_no_digit b is.0) is.0)
        ∙ run_line limit bytes size _ is.1
        ∙ by_byte limit (Extension size) Bad 10 rest refl
        ∙ bad_stays limit rest

pub crlf_behind_data : CrlfBehindData
crlf_behind_data chunks line bytes b c rest are is some sized may =
    let size = chunk_size line in
    let limit = length (chunks_bytes chunks) + size in
    let to_cr : place_after limit Start (chunks_bytes chunks ++ (opening_bytes line ++ (bytes ++ b ∷ c ∷ rest))) ≡ place_after limit DataCr (b ∷ c ∷ rest) =
    run_chunks limit chunks _ are (sizes_fit chunks limit are (omega arith))
    ∙ run_size_line limit line _ is (omega arith)
    ∙ ap (λ p. place_after limit p (bytes ++ b ∷ c ∷ rest)) (after_some limit size some)
    ∙ place_after-append limit (Data size) bytes (b ∷ c ∷ rest)
    ∙ ap (λ p. place_after limit p (b ∷ c ∷ rest)) (data_all limit bytes size some (sym sized)) in
    let cr : b ≡ 13 = wanted limit b 13 DataCr DataLf (c ∷ rest) refl (λ bad. bad_never limit _ (to_cr ∙ bad) may) in
    let to_lf : place_after limit DataCr (b ∷ c ∷ rest) ≡ place_after limit DataLf (c ∷ rest) = ap (λ x. place_after limit DataCr (x ∷ c ∷ rest)) cr ∙ by_byte limit DataCr DataLf 13 (c ∷ rest) refl in
    (cr, wanted limit c 10 DataLf Start rest refl (λ bad. bad_never limit _ (to_cr ∙ to_lf ∙ bad) may))
  where
    -- where only one byte is allowed, and the bytes aren't bad, it is there
    wanted : (limit b w : ℕ) (place next : ChunkedPlace) (rest : List ℕ) → next_place limit place b ≡ expect b w next → ¬ (place_after limit place (b ∷ rest) ≡ Bad) → b ≡ w
    wanted limit b w place next rest step not_bad = by_test (eqb b w) refl
      where
        by_test : (t : Bool) → eqb b w ≡ t → b ≡ w
        by_test true is = eqb-true b w is
        by_test false is = absurd (not_bad (by_byte limit place Bad b rest (step ∙ ap (λ t. cond t next Bad) is) ∙ bad_stays limit rest))

pub bare_lf_examples : BareLfExamples
unfolding place_after
bare_lf_examples rest = (bad (codes "5\n") rest refl, bad (codes "0\r\n\n") rest refl, bad (codes "0\r\na:b\n") rest refl)
  where
    bad : (front rest : List ℕ) → place_after 16 Start front ≡ Bad → ¬ (MayBecomeChunked (front ++ rest))
    bad front rest e = bad_never 16 (front ++ rest) (place_after-append 16 Start front rest ∙ ap (λ p. place_after 16 p rest) e ∙ bad_stays 16 rest)

pub done_is_whole : DoneIsWhole
done_is_whole limit at bytes done =
    let read = done_reads limit at bytes done in
    (chunked_data read.body, (read.body, read.is_body, read.sizes, read.text, read.parts_are, refl))

pub whole_is_done : WholeIsDone
whole_is_done limit body is small =
    ap (place_after limit Start) (sym (append-nil (chunked_bytes body))) ∙ run_body limit body [] is small ∙ place_after-nil limit Done
