-- What the bytes so far are, by the place that they lead to.
use Rattle.std.proofs.Common.{◌≡◌, ℕ, ◌+◌, ◌-◌, ◌*◌, ◌<◌, ◌≤◌, Bool, true, false, cond, ◌==◌, List, [], ◌∷◌, ◌++◌, length, refl, sym, ap, ◌∙◌, subst, arith, nat_le}
use Rattle.std.specs.Prelude.{All, flat_map}
use Rattle.std.specs.List.{AllPass}
use Rattle.std.proofs.lemmas.List.{append_assoc, append-nil, length-append, length_push}
use Rattle.std.proofs.lemmas.List.Elements.{All-nil, All-cons, All-push}
use Rattle.std.proofs.lemmas.List.Concat.{flat_map-append}
use Rattle.std.proofs.lemmas.Bool.{eqb-true, eqb-false, eq-eqb, leb-true, leb-false}
use Rattle.std.specs.Char.{digit_value, is_ascii_hexdigit}
use Rattle.std.specs.Str.Parse.{digits_value}
use Rattle.std.proofs.lemmas.Int.Digits.{digits_value_push}
use Rattle.httparse.specs.Ascii.{crlf_bytes}
use Rattle.mx_body.specs.declared.part.Part.{Part}
use Rattle.mx_body.specs.declared.chunked.place.ChunkedPlace.{ChunkedPlace}
use Rattle.mx_body.specs.declared.chunked.place.ChunkedPlace.TheVariants.{Start, Size, Extension, SizeLf, Data, DataCr, DataLf, TrailerStart, Trailer, TrailerLf, EndLf, Done, Bad, TooLarge}
use Rattle.mx_body.specs.Chunked.{is_line_byte, IsChunkSize, IsChunkExtension, ChunkOpening, opening_bytes, chunk_size, IsChunkOpening, Chunk, chunk_bytes, IsChunk, IsTrailer, ChunkedBody, chunks_bytes, chunked_bytes, IsChunkedBody, HasSizes, chunk_parts, EndsInLargeSize}
use Rattle.mx_body.specs.ChunkedPlace.{sized, after_digits, in_line, expect, after_line, next_place, place_after, is_settled, begun, parts_begun}
use Rattle.mx_body.proofs.ChunkedRun.{parts_begun-nil, parts_begun-cons, place_after-nil, place_after-cons, bad_stays, too_large_stays, done_ends}

-- a part of so many bytes at an offset
abbrev pub part_at : ℕ → ℕ → Part
part_at start len = record { start = start; end = start + len }

module _ (limit at : ℕ) where
  -- whole chunks with no size over the limit, and their parts
  pub record AreChunks (chunks : List Chunk) (parts : List Part) : Type 0 where
    pub are : All IsChunk chunks
    pub small : All (λ c. chunk_size c.line ≤ limit) chunks
    pub parts_are : parts ≡ chunk_parts at chunks

  -- whole chunks, and a size line's digits
  pub record InSize (size : ℕ) (bytes : List ℕ) (parts : List Part) : Type 0 where
    pub chunks : List Chunk
    pub digits : List ℕ
    pub before : AreChunks chunks parts
    pub is_size : IsChunkSize digits
    pub value : digits_value 16 digits ≡ size
    pub small : size ≤ limit
    pub text : bytes ≡ chunks_bytes chunks ++ digits

  -- whole chunks, and a size line without its CRLF
  pub record InLine (size : ℕ) (behind bytes : List ℕ) (parts : List Part) : Type 0 where
    pub chunks : List Chunk
    pub line : ChunkOpening
    pub before : AreChunks chunks parts
    pub is_line : IsChunkOpening line
    pub value : chunk_size line ≡ size
    pub small : size ≤ limit
    pub text : bytes ≡ chunks_bytes chunks ++ (line.digits ++ (line.extension ++ behind))

  -- whole chunks, a size line, and data but for so many bytes
  pub record InData (left : ℕ) (behind bytes : List ℕ) (parts : List Part) : Type 0 where
    pub chunks : List Chunk
    pub line : ChunkOpening
    pub got : List ℕ
    pub front : List Part
    pub before : AreChunks chunks front
    pub is_line : IsChunkOpening line
    pub value : chunk_size line ≡ left + length got
    pub some : 0 < chunk_size line
    pub small : chunk_size line ≤ limit
    pub parts_are : parts ≡ front ++ part_at (at + length (chunks_bytes chunks) + length (opening_bytes line)) (chunk_size line) ∷ []
    pub text : bytes ≡ chunks_bytes chunks ++ (opening_bytes line ++ (got ++ behind))

  -- all the chunks, and some of the trailer section
  pub record InTrailers (behind bytes : List ℕ) (parts : List Part) : Type 0 where
    pub chunks : List Chunk
    pub last : ChunkOpening
    pub trailers : List (List ℕ)
    pub before : AreChunks chunks parts
    pub is_last : IsChunkOpening last
    pub ends : chunk_size last ≡ 0
    pub are_trailers : All IsTrailer trailers
    pub text : bytes ≡ chunks_bytes chunks ++ (opening_bytes last ++ (flat_map (λ t. t ++ crlf_bytes) trailers ++ behind))

  -- a whole body
  pub record IsRead (bytes : List ℕ) (parts : List Part) : Type 0 where
    pub body : ChunkedBody
    pub is_body : IsChunkedBody body
    pub sizes : HasSizes limit body
    pub parts_are : parts ≡ chunk_parts at body.chunks
    pub text : bytes ≡ chunked_bytes body

  -- what the bytes are at each place, and the parts begun
  abbrev pub Reads : ChunkedPlace → List ℕ → List Part → Type 0
  Reads Start bytes parts = (chunks : List Chunk) × AreChunks chunks parts × (bytes ≡ chunks_bytes chunks)
  Reads (Size size) bytes parts = InSize size bytes parts
  Reads (Extension size) bytes parts = (l : InLine size [] bytes parts) × (0 < length l.line.extension)
  Reads (SizeLf size) bytes parts = InLine size (13 ∷ []) bytes parts
  Reads (Data left) bytes parts = (0 < left) × InData left [] bytes parts
  Reads DataCr bytes parts = InData 0 [] bytes parts
  Reads DataLf bytes parts = InData 0 (13 ∷ []) bytes parts
  Reads TrailerStart bytes parts = InTrailers [] bytes parts
  Reads Trailer bytes parts = (t : List ℕ) × IsTrailer t × InTrailers t bytes parts
  Reads TrailerLf bytes parts = (t : List ℕ) × IsTrailer t × InTrailers (t ++ 13 ∷ []) bytes parts
  Reads EndLf bytes parts = InTrailers (13 ∷ []) bytes parts
  Reads Done bytes parts = IsRead bytes parts
  Reads Bad bytes parts = Unit {0}
  Reads TooLarge bytes parts = EndsInLargeSize limit bytes

  -- the two cases of a test that chooses a place
  by_test : (P : ChunkedPlace → Type 0) (t : Bool) (x y : ChunkedPlace) → (t ≡ true → P x) → (t ≡ false → P y) → P (cond t x y)
  by_test P true x y one other = one refl
  by_test P false x y one other = other refl

  single : (test : ℕ → Bool) (b : ℕ) → test b ≡ true → AllPass test (b ∷ [])
  single test b is = All-cons (λ x. test x ≡ true) b [] is (All-nil (λ x. test x ≡ true))

  line_byte : (b : ℕ) → (b == 13) ≡ false → (b == 10) ≡ false → is_line_byte b ≡ true
  line_byte b cr lf = cc

  extension_push : (bytes : List ℕ) (b : ℕ) → 0 < length bytes → IsChunkExtension bytes → is_line_byte b ≡ true → IsChunkExtension (bytes ++ b ∷ [])
  extension_push [] b some is test = absurd (omega arith)
  extension_push (x ∷ bytes) b some is test = (is.0, All-push (λ x. is_line_byte x ≡ true) bytes b is.1 test)

  print_chunks-push : (chunks : List Chunk) (c : Chunk) → chunks_bytes (chunks ++ c ∷ []) ≡ chunks_bytes chunks ++ chunk_bytes c
  print_chunks-push chunks c = flat_map-append chunk_bytes chunks (c ∷ []) ∙ ap (λ t. chunks_bytes chunks ++ t) (append-nil (chunk_bytes c))

  print_trailer_lines-push : (ts : List (List ℕ)) (t : List ℕ) → flat_map (λ t. t ++ crlf_bytes) (ts ++ t ∷ []) ≡ flat_map (λ t. t ++ crlf_bytes) ts ++ (t ++ crlf_bytes)
  print_trailer_lines-push ts t =
      flat_map-append (λ t. t ++ crlf_bytes) ts (t ∷ []) ∙ ap (λ s. flat_map (λ t. t ++ crlf_bytes) ts ++ s) (append-nil (t ++ crlf_bytes))

  -- the part of a chunk that begins at the offset
  abbrev part_of : ℕ → Chunk → Part
  part_of at c = part_at (at + length (opening_bytes c.line)) (length c.bytes)

  chunk_parts-push : (chunks : List Chunk) (at : ℕ) (c : Chunk) → chunk_parts at (chunks ++ c ∷ []) ≡ chunk_parts at chunks ++ part_of (at + length (chunks_bytes chunks)) c ∷ []
  chunk_parts-push [] at c =
      let same : at ≡ at + 0 = omega arith in
      ap (λ n. part_of n c ∷ []) same
  chunk_parts-push (d ∷ chunks) at c =
      let front = length (chunk_bytes d) in
      let same : at + front + length (chunks_bytes chunks) ≡ at + length (chunks_bytes (d ∷ chunks)) = omega (arith, length-append (chunk_bytes d) (chunks_bytes chunks)) in
      ap (λ ps. part_of at d ∷ ps) (chunk_parts-push chunks (at + front) c ∙ ap (λ n. chunk_parts (at + front) chunks ++ part_of n c ∷ []) same)

  module _ (b : ℕ) (bytes : List ℕ) (parts : List Part) where
    -- what holds of the place after the byte, where the byte begins no part
    abbrev Then : ChunkedPlace → Type 0
    Then next = Reads next (bytes ++ b ∷ []) (parts ++ [])

    same_parts : (next : ChunkedPlace) → Reads next (bytes ++ b ∷ []) parts → Then next
    same_parts next h = subst (Reads next (bytes ++ b ∷ [])) (sym (append-nil parts)) h

    -- the bytes with the one that was wanted
    with_byte : (text : List ℕ) (wanted : ℕ) → bytes ≡ text → (b == wanted) ≡ true → bytes ++ b ∷ [] ≡ text ++ wanted ∷ []
    with_byte text wanted e is = ap (λ t. t ++ b ∷ []) e ∙ ap (λ x. text ++ x ∷ []) (eqb-true b wanted is)

    after_digit : (chunks : List Chunk) (digits : List ℕ) → AreChunks chunks parts → AllPass is_ascii_hexdigit digits → is_ascii_hexdigit b ≡ true → bytes ≡ chunks_bytes chunks ++ digits → Then (sized limit (digits_value 16 digits * 16 + digit_value b))
    after_digit chunks digits before hex is text =
        let size = digits_value 16 digits * 16 + digit_value b in
        let more = digits ++ b ∷ [] in
        let is_size : IsChunkSize more = (omega (arith, length_push digits b), All-push (λ x. is_ascii_hexdigit x ≡ true) digits b hex is) in
        let value : digits_value 16 more ≡ size = digits_value_push 16 digits b in
        let whole : bytes ++ b ∷ [] ≡ chunks_bytes chunks ++ more = ap (λ t. t ++ b ∷ []) text ∙ append_assoc (chunks_bytes chunks) digits (b ∷ []) in
        by_test Then (nat_le size limit) (Size size) TooLarge
        (λ t. let small : size ≤ limit = omega (arith, leb-true size limit t) in
        same_parts (Size size) (record { chunks = chunks; digits = more; before = before; is_size = is_size; value = value; small = small; text = whole }))
        (λ t. let large : limit < size = omega (arith, leb-false size limit t) in
        (chunks, more, before.are, is_size, whole, omega (arith, value)))

    after_size : (size : ℕ) → InSize size bytes parts → Then (after_digits size b)
    after_size size h =
        let before : bytes ++ b ∷ [] ≡ chunks_bytes h.chunks ++ (h.digits ++ b ∷ []) = ap (λ t. t ++ b ∷ []) h.text ∙ append_assoc (chunks_bytes h.chunks) h.digits (b ∷ []) in
        by_test Then _ (Extension size) _
        (λ is. same_parts (Extension size) (
          record { chunks = h.chunks; line = record { digits = h.digits; extension = b ∷ [] }; before = h.before; is_line = record { digits = h.is_size; extension = (is, All-nil (λ x. is_line_byte x ≡ true)) }; value = h.value; small = h.small; text = before },
          omega arith,
        ))
        (λ _. by_test Then _ (SizeLf size) Bad
        (λ cr. same_parts (SizeLf size) (record { chunks = h.chunks; line = record { digits = h.digits; extension = [] }; before = h.before; is_line = record { digits = h.is_size; extension = tt }; value = h.value; small = h.small; text = before ∙ ap (λ x. chunks_bytes h.chunks ++ (h.digits ++ x ∷ [])) (eqb-true b 13 cr) }))
        (λ _. tt))

    after_extension : (size : ℕ) → Reads (Extension size) bytes parts → Then (in_line b (Extension size) (SizeLf size))
    after_extension size (h, some) =
        by_test Then _ (SizeLf size) _
        (λ cr. same_parts (SizeLf size) (record { chunks = h.chunks; line = h.line; before = h.before; is_line = h.is_line; value = h.value; small = h.small; text = with_byte _ 13 h.text cr ∙ regroup h.line.digits h.line.extension 13 }))
        (λ not_cr. by_test Then _ Bad (Extension size) (λ _. tt)
        (λ not_lf. let more = h.line.extension ++ b ∷ [] in
        same_parts (Extension size) (
          record { chunks = h.chunks; line = record { digits = h.line.digits; extension = more }; before = h.before; is_line = record { digits = h.is_line.digits; extension = extension_push h.line.extension b some h.is_line.extension (line_byte b not_cr not_lf) }; value = h.value; small = h.small; text = ap (λ t. t ++ b ∷ []) h.text ∙ regroup h.line.digits h.line.extension b ∙ ap (λ t. chunks_bytes h.chunks ++ (h.line.digits ++ t)) (sym (append-nil more)) },
          omega (arith, length_push h.line.extension b),
        )))
      where
        regroup : (digits extension : List ℕ) (x : ℕ) → (chunks_bytes h.chunks ++ (digits ++ (extension ++ []))) ++ x ∷ [] ≡ chunks_bytes h.chunks ++ (digits ++ (extension ++ x ∷ []))
        regroup digits extension x = simp (append_assoc, append-nil)

    after_size_lf : (size : ℕ) → InLine size (13 ∷ []) bytes parts → Reads (next_place limit (SizeLf size) b) (bytes ++ b ∷ []) (parts ++ begun (SizeLf size) (next_place limit (SizeLf size) b) (at + length bytes + 1))
    after_size_lf size h =
        let P : ChunkedPlace → Type 0 = λ next. Reads next (bytes ++ b ∷ []) (parts ++ begun (SizeLf size) next (at + length bytes + 1)) in
        by_test P (b == 10) (after_line size) Bad
        (λ lf. by_test P (size == 0) TrailerStart (Data size)
        (λ none. subst (λ ps. InTrailers [] (bytes ++ b ∷ []) ps) (sym (append-nil parts))
        (record { chunks = h.chunks; last = h.line; trailers = []; before = h.before; is_last = h.is_line; ends = h.value ∙ eqb-true size 0 none; are_trailers = All-nil IsTrailer; text = with_byte _ 10 h.text lf ∙ regroup h.line.digits h.line.extension }))
        (λ some. (
          omega (arith, eqb-false size 0 some),
          record {
            chunks = h.chunks;
            line = h.line;
            got = [];
            front = parts;
            before = h.before;
            is_line = h.is_line;
            value = omega (arith, h.value);
            some = omega (arith, h.value, eqb-false size 0 some);
            small = omega (arith, h.value, h.small);
            parts_are = ap (λ p. parts ++ p ∷ []) part_is;
            text = with_byte _ 10 h.text lf ∙ regroup h.line.digits h.line.extension;
          },
        )))
        (λ _. tt)
      where
        regroup : (digits extension : List ℕ) → (chunks_bytes h.chunks ++ (digits ++ (extension ++ 13 ∷ []))) ++ 10 ∷ [] ≡ chunks_bytes h.chunks ++ ((digits ++ (extension ++ crlf_bytes)) ++ [])
        regroup digits extension = simp (append_assoc, append-nil)

        lengths : (xs ys zs : List ℕ) → length (xs ++ (ys ++ (zs ++ 13 ∷ []))) + 1 ≡ length xs + length (ys ++ (zs ++ crlf_bytes))
        lengths xs ys zs = simp length-append (omega arith)

        start_is : at + length bytes + 1 ≡ at + length (chunks_bytes h.chunks) + length (opening_bytes h.line)
        start_is = omega (arith, ap length h.text, lengths (chunks_bytes h.chunks) h.line.digits h.line.extension)

        part_is : part_at (at + length bytes + 1) size ≡ part_at (at + length (chunks_bytes h.chunks) + length (opening_bytes h.line)) (chunk_size h.line)
        part_is = ap (λ n. part_at n size) start_is ∙ ap (part_at (at + length (chunks_bytes h.chunks) + length (opening_bytes h.line))) (sym h.value)

    after_data : (left : ℕ) → 0 < left → InData left [] bytes parts → Then (next_place limit (Data left) b)
    after_data left more h =
        by_test Then (nat_le left 1) DataCr (Data (left - 1))
        (λ last. same_parts DataCr (grown 0 (omega (arith, leb-true left 1 last))))
        (λ most. let above : 1 < left = omega (arith, leb-false left 1 most) in
        same_parts (Data (left - 1)) (omega arith, grown (left - 1) (omega arith)))
      where
        regroup : (xs ys zs : List ℕ) → (xs ++ (ys ++ (zs ++ []))) ++ b ∷ [] ≡ xs ++ (ys ++ ((zs ++ b ∷ []) ++ []))
        regroup xs ys zs = simp (append_assoc, append-nil)

        grown : (n : ℕ) → n + 1 ≡ left → InData n [] (bytes ++ b ∷ []) parts
        grown n e = record {
          chunks = h.chunks;
          line = h.line;
          got = h.got ++ b ∷ [];
          front = h.front;
          before = h.before;
          is_line = h.is_line;
          value = omega (arith, h.value, length_push h.got b);
          some = h.some;
          small = h.small;
          parts_are = h.parts_are;
          text = ap (λ t. t ++ b ∷ []) h.text ∙ regroup (chunks_bytes h.chunks) (opening_bytes h.line) h.got;
        }

    after_data_cr : InData 0 [] bytes parts → Then (expect b 13 DataLf)
    after_data_cr h =
        by_test Then _ DataLf Bad
        (λ cr. same_parts DataLf (record { chunks = h.chunks; line = h.line; got = h.got; front = h.front; before = h.before; is_line = h.is_line; value = h.value; some = h.some; small = h.small; parts_are = h.parts_are; text = with_byte _ 13 h.text cr ∙ regroup (chunks_bytes h.chunks) (opening_bytes h.line) h.got }))
        (λ _. tt)
      where
        regroup : (xs ys zs : List ℕ) → (xs ++ (ys ++ (zs ++ []))) ++ 13 ∷ [] ≡ xs ++ (ys ++ (zs ++ 13 ∷ []))
        regroup xs ys zs = simp (append_assoc, append-nil)

    after_data_lf : InData 0 (13 ∷ []) bytes parts → Then (expect b 10 Start)
    after_data_lf h =
        let c : Chunk = record { line = h.line; bytes = h.got } in
        let sized : chunk_size h.line ≡ length h.got = omega (arith, h.value) in
        let is : IsChunk c = record { line = h.is_line; sized = sized; not_empty = omega (arith, h.some, sized) } in
        let begin = at + length (chunks_bytes h.chunks) + length (opening_bytes h.line) in
        let ended : part_at begin (chunk_size h.line) ≡ part_of (at + length (chunks_bytes h.chunks)) c = ap (part_at begin) sized in
        by_test Then _ Start Bad
        (λ lf. same_parts Start (
          h.chunks ++ c ∷ [],
          record {
            are = All-push IsChunk h.chunks c h.before.are is;
            small = All-push (λ (d : Chunk). chunk_size d.line ≤ limit) h.chunks c h.before.small h.small;
            parts_are = h.parts_are ∙ ap (λ ps. ps ++ part_at begin (chunk_size h.line) ∷ []) h.before.parts_are ∙ ap (λ p. chunk_parts at h.chunks ++ p ∷ []) ended ∙ sym (chunk_parts-push h.chunks at c);
          },
          with_byte _ 10 h.text lf ∙ regroup (chunks_bytes h.chunks) (opening_bytes h.line) h.got ∙ sym (print_chunks-push h.chunks c),
        ))
        (λ _. tt)
      where
        regroup : (xs ys zs : List ℕ) → (xs ++ (ys ++ (zs ++ 13 ∷ []))) ++ 10 ∷ [] ≡ xs ++ (ys ++ (zs ++ crlf_bytes))
        regroup xs ys zs = simp append_assoc

    -- the same trailer lines, with other bytes after them
    behind_them : {behind : List ℕ} (h : InTrailers behind bytes parts) (more : List ℕ) (x : ℕ) → (b == x) ≡ true → behind ++ x ∷ [] ≡ more → InTrailers more (bytes ++ b ∷ []) parts
    behind_them {behind} h more x is e = record {
      chunks = h.chunks;
      last = h.last;
      trailers = h.trailers;
      before = h.before;
      is_last = h.is_last;
      ends = h.ends;
      are_trailers = h.are_trailers;
      text = with_byte _ x h.text is ∙ regroup (chunks_bytes h.chunks) (opening_bytes h.last) (flat_map (λ t. t ++ crlf_bytes) h.trailers) ∙ ap (λ t. chunks_bytes h.chunks ++ (opening_bytes h.last ++ (flat_map (λ t. t ++ crlf_bytes) h.trailers ++ t))) e;
    }
      where
        regroup : (xs ys zs : List ℕ) → (xs ++ (ys ++ (zs ++ behind))) ++ x ∷ [] ≡ xs ++ (ys ++ (zs ++ (behind ++ x ∷ [])))
        regroup xs ys zs = simp append_assoc

    after_trailer_start : InTrailers [] bytes parts → Then (in_line b Trailer EndLf)
    after_trailer_start h =
        by_test Then _ EndLf _
        (λ cr. same_parts EndLf (behind_them h (13 ∷ []) 13 cr refl))
        (λ not_cr. by_test Then _ Bad Trailer (λ _. tt)
        (λ not_lf. same_parts Trailer (b ∷ [], (omega arith, single is_line_byte b (line_byte b not_cr not_lf)), behind_them h (b ∷ []) b (eq-eqb b b refl) refl)))

    after_trailer : (t : List ℕ) → IsTrailer t → InTrailers t bytes parts → Then (in_line b Trailer TrailerLf)
    after_trailer t is h =
        by_test Then _ TrailerLf _
        (λ cr. same_parts TrailerLf (t, is, behind_them h (t ++ 13 ∷ []) 13 cr refl))
        (λ not_cr. by_test Then _ Bad Trailer (λ _. tt)
        (λ not_lf. same_parts Trailer (t ++ b ∷ [], (omega (arith, length_push t b), All-push (λ x. is_line_byte x ≡ true) t b is.1 (line_byte b not_cr not_lf)), behind_them h (t ++ b ∷ []) b (eq-eqb b b refl) refl)))

    after_trailer_lf : (t : List ℕ) → IsTrailer t → InTrailers (t ++ 13 ∷ []) bytes parts → Then (expect b 10 TrailerStart)
    after_trailer_lf t is h =
        by_test Then _ TrailerStart Bad
        (λ lf. same_parts TrailerStart (record {
          chunks = h.chunks;
          last = h.last;
          trailers = h.trailers ++ t ∷ [];
          before = h.before;
          is_last = h.is_last;
          ends = h.ends;
          are_trailers = All-push IsTrailer h.trailers t h.are_trailers is;
          text = with_byte _ 10 h.text lf ∙ regroup (chunks_bytes h.chunks) (opening_bytes h.last) (flat_map (λ t. t ++ crlf_bytes) h.trailers) ∙ ap (λ ts. chunks_bytes h.chunks ++ (opening_bytes h.last ++ (ts ++ []))) (sym (print_trailer_lines-push h.trailers t));
        }))
        (λ _. tt)
      where
        regroup : (xs ys zs : List ℕ) → (xs ++ (ys ++ (zs ++ (t ++ 13 ∷ [])))) ++ 10 ∷ [] ≡ xs ++ (ys ++ ((zs ++ (t ++ crlf_bytes)) ++ []))
        regroup xs ys zs = simp (append_assoc, append-nil)

    after_end_lf : InTrailers (13 ∷ []) bytes parts → Then (expect b 10 Done)
    after_end_lf h =
        let body : ChunkedBody = record { chunks = h.chunks; last = h.last; trailers = h.trailers } in
        by_test Then _ Done Bad
        (λ lf. same_parts Done (record {
          body = body;
          is_body = record { chunks = h.before.are; last = h.is_last; ends = h.ends; trailers = h.are_trailers };
          sizes = h.before.small;
          parts_are = h.before.parts_are;
          text = with_byte _ 10 h.text lf ∙ regroup (chunks_bytes h.chunks) (opening_bytes h.last) (flat_map (λ t. t ++ crlf_bytes) h.trailers);
        }))
        (λ _. tt)
      where
        regroup : (xs ys zs : List ℕ) → (xs ++ (ys ++ (zs ++ 13 ∷ []))) ++ 10 ∷ [] ≡ xs ++ (ys ++ (zs ++ crlf_bytes))
        regroup xs ys zs = simp append_assoc

    after_start : (chunks : List Chunk) → AreChunks chunks parts → bytes ≡ chunks_bytes chunks → Then (next_place limit Start b)
    after_start chunks before text =
        by_test Then _ _ Bad
        (λ hex. let zero : 0 * 16 + digit_value b ≡ digit_value b = omega arith in
        subst (λ n. Then (sized limit n)) zero (after_digit chunks [] before (All-nil (λ x. is_ascii_hexdigit x ≡ true)) hex (text ∙ sym (append-nil (chunks_bytes chunks)))))
        (λ _. tt)

    after_size_byte : (size : ℕ) → InSize size bytes parts → Then (next_place limit (Size size) b)
    after_size_byte size h =
        by_test Then _ _ _
        (λ hex. subst (λ n. Then (sized limit (n * 16 + digit_value b))) h.value (after_digit h.chunks h.digits h.before h.is_size.1 hex h.text))
        (λ _. after_size size h)

    -- one byte on
    pub reads_byte : (place : ChunkedPlace) → is_settled place ≡ false → Reads place bytes parts
        → Reads (next_place limit place b) (bytes ++ b ∷ []) (parts ++ begun place (next_place limit place b) (at + length bytes + 1))
    reads_byte Start live h = after_start h.0 h.1 h.2
    reads_byte (Size size) live h = after_size_byte size h
    reads_byte (Extension size) live h = after_extension size h
    reads_byte (SizeLf size) live h = after_size_lf size h
    reads_byte (Data left) live h = after_data left h.0 h.1
    reads_byte DataCr live h = after_data_cr h
    reads_byte DataLf live h = after_data_lf h
    reads_byte TrailerStart live h = after_trailer_start h
    reads_byte Trailer live h = after_trailer h.0 h.1 h.2
    reads_byte TrailerLf live h = after_trailer_lf h.0 h.1 h.2
    reads_byte EndLf live h = after_end_lf h
    reads_byte Done live h = cc
    reads_byte Bad live h = cc
    reads_byte TooLarge live h = cc

  -- a byte taken off the front of what is still to come
  module _ (place : ChunkedPlace) (b : ℕ) (front bs : List ℕ) (parts : List Part) where
    abbrev next : ChunkedPlace
    next = next_place limit place b

    same_bytes : (front ++ b ∷ []) ++ bs ≡ front ++ b ∷ bs
    same_bytes = append_assoc front (b ∷ []) bs

    same_begun : (parts ++ begun place next (at + length front + 1)) ++ parts_begun limit next (at + length (front ++ b ∷ [])) bs ≡ parts ++ parts_begun limit place (at + length front) (b ∷ bs)
    same_begun =
        let offset : at + length (front ++ b ∷ []) ≡ at + length front + 1 = omega (arith, length_push front b) in
        append_assoc parts _ _
        ∙ ap (λ n. parts ++ (begun place next (at + length front + 1) ++ parts_begun limit next n bs)) offset
        ∙ ap (λ ps. parts ++ ps) (sym (parts_begun-cons limit place (at + length front) b bs))

  -- the same of equal places, bytes and parts
  moved : (p q : ChunkedPlace) (xs ys : List ℕ) (ps qs : List Part) → p ≡ q → xs ≡ ys → ps ≡ qs → Reads p xs ps → Reads q ys qs
  moved p q xs ys ps qs e f g h = subst (λ p. Reads p ys qs) e (subst (λ t. Reads p t qs) f (subst (λ ps. Reads p xs ps) g h))

  after_done : (bs xs : List ℕ) (ps : List Part) → IsRead xs ps → Reads (place_after limit Done bs) (xs ++ bs) (ps ++ parts_begun limit Done (at + length xs) bs)
  after_done [] xs ps h = moved Done _ xs _ ps _ (sym (place_after-nil limit Done)) (sym (append-nil xs)) (sym (ap (λ qs. ps ++ qs) (parts_begun-nil limit Done (at + length xs)) ∙ append-nil ps)) h
  after_done (b ∷ bs) xs ps h = moved Bad _ (xs ++ b ∷ bs) _ (ps ++ parts_begun limit Done (at + length xs) (b ∷ bs)) _ (sym (done_ends limit b bs)) refl refl tt

  -- what some bytes are, unless a size among them is over the limit
  pub reads_on : (bs front : List ℕ) (place : ChunkedPlace) (parts : List Part) → is_settled place ≡ false → Reads place front parts
      → ¬ (place_after limit place bs ≡ TooLarge)
      → Reads (place_after limit place bs) (front ++ bs) (parts ++ parts_begun limit place (at + length front) bs)
  reads_on [] front place parts live h small =
      moved place _ front _ parts _ (sym (place_after-nil limit place)) (sym (append-nil front))
      (sym (ap (λ ps. parts ++ ps) (parts_begun-nil limit place (at + length front)) ∙ append-nil parts)) h
  reads_on (b ∷ bs) front place parts live h small =
      let n = next_place limit place b in
      let one = reads_byte b front parts place live h in
      moved (place_after limit n bs) _ _ _ _ _ (sym (place_after-cons limit place b bs)) (same_bytes place b front bs parts) (same_begun place b front bs parts)
      (by_next n (front ++ b ∷ []) (parts ++ begun place n (at + length front + 1)) one
      (λ large. small (place_after-cons limit place b bs ∙ large))
      (λ goes_on. reads_on bs (front ++ b ∷ []) n (parts ++ begun place n (at + length front + 1)) goes_on one (λ large. small (place_after-cons limit place b bs ∙ large))))
    where
      by_next : (n : ChunkedPlace) (xs : List ℕ) (ps : List Part) → Reads n xs ps → ¬ (place_after limit n bs ≡ TooLarge)
          → (is_settled n ≡ false → Reads (place_after limit n bs) (xs ++ bs) (ps ++ parts_begun limit n (at + length xs) bs))
          → Reads (place_after limit n bs) (xs ++ bs) (ps ++ parts_begun limit n (at + length xs) bs)
      by_next Start xs ps h _ rest = rest refl
      by_next (Size n) xs ps h _ rest = rest refl
      by_next (Extension n) xs ps h _ rest = rest refl
      by_next (SizeLf n) xs ps h _ rest = rest refl
      by_next (Data n) xs ps h _ rest = rest refl
      by_next DataCr xs ps h _ rest = rest refl
      by_next DataLf xs ps h _ rest = rest refl
      by_next TrailerStart xs ps h _ rest = rest refl
      by_next Trailer xs ps h _ rest = rest refl
      by_next TrailerLf xs ps h _ rest = rest refl
      by_next EndLf xs ps h _ rest = rest refl
      by_next Done xs ps h _ rest = after_done bs xs ps h
      by_next Bad xs ps h _ rest = moved Bad _ _ _ _ _ (sym (bad_stays limit bs)) refl refl tt
      by_next TooLarge xs ps h small' rest = absurd (small' (too_large_stays limit bs))

  -- the bytes of an input, from its start
  pub reads_input : (bs : List ℕ) → ¬ (place_after limit Start bs ≡ TooLarge) → Reads (place_after limit Start bs) bs (parts_begun limit Start at bs)
  reads_input bs small =
      let same : at + 0 ≡ at = omega arith in
      moved _ _ _ _ _ _ refl refl (ap (λ n. parts_begun limit Start n bs) same)
      (reads_on bs [] Start [] refl ([], record { are = All-nil IsChunk; small = All-nil (λ (c : Chunk). chunk_size c.line ≤ limit); parts_are = refl }, refl) small)
