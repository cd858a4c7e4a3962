-- What the place of an input says of the input, against the grammar.
use Rattle.std.proofs.Common.{◌≡◌, ℕ, ◌+◌, ◌*◌, ◌≤◌, ◌⊎◌, Bool, true, false, cond, List, [], ◌∷◌, ◌++◌, length, replicate, refl, sym, ap, ◌∙◌, subst, inl, inr, ⊎_elim, arith, nat_le, eqb}
use Rattle.std.specs.Prelude.{All}
use Rattle.std.proofs.lemmas.List.{append_assoc, append-nil, length-append, length-replicate}
use Rattle.std.proofs.lemmas.List.Elements.{All-nil, All-cons, All-head, All-tail}
use Rattle.std.proofs.lemmas.Bool.{eqb-false, leb-true, leb-false}
use Rattle.std.proofs.lemmas.Bool.Decides.{nat_tests}
use Rattle.std.specs.Char.{digit_value, is_ascii_hexdigit}
use Rattle.std.specs.Str.Parse.{digits_value}
use Rattle.mx_body.specs.declared.part.Part.{Part}
use Rattle.mx_body.specs.declared.chunked.place.ChunkedPlace.{ChunkedPlace}
use Rattle.mx_body.specs.declared.chunked.place.ChunkedPlace.TheVariants.{Start, Size, Extension, SizeLf, Data, DataCr, DataLf, TrailerStart, Trailer, TrailerLf, EndLf, Done, Bad, TooLarge}
use Rattle.mx_body.specs.Chunked.{opening_bytes, chunk_size, Chunk, chunk_bytes, IsChunk, ChunkedBody, chunks_bytes, trailers_bytes, chunked_bytes, IsChunkedBody, HasSizes, MayBecomeChunked, EndsInLargeSize}
use Rattle.mx_body.specs.ChunkedPlace.{sized, after_digits, next_place, place_after, is_settled, parts_begun}
use Rattle.mx_body.specs.ChunkedScan.{IsUndecidedChunked, NeverHasChunked, IsDecidedBy}
use Rattle.mx_body.proofs.ChunkedRun.{place_after-nil, place_after-cons, place_after-append, by_byte, data_all, bad_stays, too_large_stays, done_ends, settled_stays}
use Rattle.mx_body.proofs.ChunkedSound.{Reads, reads_byte, reads_input, IsRead}
use Rattle.mx_body.proofs.ChunkedComplete.{run_size, run_chunks, run_body}

-- the sizes of some chunks are at most the length of their bytes
pub sizes_fit : (chunks : List Chunk) (n : ℕ) → All IsChunk chunks → length (chunks_bytes chunks) ≤ n → All (λ c. chunk_size c.line ≤ n) chunks
sizes_fit [] n are fits = All-nil (λ (c : Chunk). chunk_size c.line ≤ n)
sizes_fit (c ∷ chunks) n are fits =
    let is = All-head IsChunk c chunks are in
    let whole = length-append (chunk_bytes c) (chunks_bytes chunks) in
    let first = length-append (opening_bytes c.line) (c.bytes ++ 13 ∷ 10 ∷ []) in
    let inner = length-append c.bytes (13 ∷ 10 ∷ []) in
    All-cons (λ (c : Chunk). chunk_size c.line ≤ n) c chunks (omega (arith, is.sized)) (sizes_fit chunks n (All-tail IsChunk c chunks are) (omega arith))

pub body_sizes_fit : (body : ChunkedBody) (n : ℕ) → IsChunkedBody body → length (chunked_bytes body) ≤ n → HasSizes n body
body_sizes_fit body n is fits =
    sizes_fit body.chunks n is.chunks (omega (arith, length-append (chunks_bytes body.chunks) (opening_bytes body.last ++ trailers_bytes body.trailers)))

-- a limit and one above it
module _ (low high : ℕ) (below : low ≤ high) where
  sized_same : (n : ℕ) → (sized low n ≡ TooLarge) ⊎ (sized high n ≡ sized low n)
  sized_same n = by_test (nat_le n low) refl
    where
      by_test : (t : Bool) → nat_le n low ≡ t → (sized low n ≡ TooLarge) ⊎ (sized high n ≡ sized low n)
      by_test true fits =
          let small = leb-true n low fits in
          inr (grind (arith, nat_tests))
      by_test false over =
          let large = leb-false n low over in
          inl (grind (arith, nat_tests))

  -- a test that chooses between equal places
  same_choice : (t : Bool) (p q r : ChunkedPlace) → (p ≡ TooLarge) ⊎ (q ≡ p) → (cond t p r ≡ TooLarge) ⊎ (cond t q r ≡ cond t p r)
  same_choice true p q r h = h
  same_choice false p q r h = inr refl

  step_same : (place : ChunkedPlace) (b : ℕ) → (next_place low place b ≡ TooLarge) ⊎ (next_place high place b ≡ next_place low place b)
  step_same Start b = same_choice (is_ascii_hexdigit b) _ _ Bad (sized_same (digit_value b))
  step_same (Size n) b = same_choice (is_ascii_hexdigit b) _ _ (after_digits n b) (sized_same (n * 16 + digit_value b))
  step_same (Extension n) b = inr refl
  step_same (SizeLf n) b = inr refl
  step_same (Data n) b = inr refl
  step_same DataCr b = inr refl
  step_same DataLf b = inr refl
  step_same TrailerStart b = inr refl
  step_same Trailer b = inr refl
  step_same TrailerLf b = inr refl
  step_same EndLf b = inr refl
  step_same Done b = inr refl
  step_same Bad b = inr refl
  step_same TooLarge b = inr refl

  -- under the lower limit a size is over it, or the place is the same
  pub place_same : (bs : List ℕ) (place : ChunkedPlace) → (place_after low place bs ≡ TooLarge) ⊎ (place_after high place bs ≡ place_after low place bs)
  place_same [] place = inr (place_after-nil high place ∙ sym (place_after-nil low place))
  place_same (b ∷ bs) place =
      ⊎_elim (λ large. inl (by_byte low place TooLarge b bs large ∙ too_large_stays low bs))
      (λ same. ⊎_elim (λ large. inl (place_after-cons low place b bs ∙ large))
      (λ rest. inr (by_byte high place (next_place low place b) b bs same ∙ rest ∙ sym (place_after-cons low place b bs)))
      (place_same bs (next_place low place b)))
      (step_same place b)

module _ (limit : ℕ) where
  abbrev At : List ℕ → ChunkedPlace
  At bs = place_after limit Start bs

  -- what follows a whole body
  pub behind_body : (body : ChunkedBody) (rest : List ℕ) → IsChunkedBody body → (At (chunked_bytes body ++ rest) ≡ TooLarge) ⊎ (At (chunked_bytes body ++ rest) ≡ place_after limit Done rest)
  behind_body body rest is =
      let high = limit + length (chunked_bytes body) in
      ⊎_elim inl
      (λ same. inr (sym same ∙ run_body high body rest is (body_sizes_fit body high is (omega arith)) ∙ done_same rest))
      (place_same limit high (omega arith) (chunked_bytes body ++ rest) Start)
    where
      done_same : (rest : List ℕ) → place_after (limit + length (chunked_bytes body)) Done rest ≡ place_after limit Done rest
      done_same [] = place_after-nil _ Done ∙ sym (place_after-nil limit Done)
      done_same (b ∷ rest) = done_ends _ b rest ∙ sym (done_ends limit b rest)

  -- bytes that end in a size, where the limit is no less than any size
  pub large_leads : (bs : List ℕ) (high : ℕ) (h : EndsInLargeSize limit bs) → digits_value 16 h.1 + length (chunks_bytes h.0) ≤ high
      → place_after high Start bs ≡ Size (digits_value 16 h.1)
  large_leads bs high (chunks, digits, are, is_size, text, large) above =
      ap (place_after high Start) (text ∙ sym (ap (λ t. chunks_bytes chunks ++ t) (append-nil digits)))
      ∙ run_chunks high chunks (digits ++ []) are (sizes_fit chunks high are (omega arith))
      ∙ run_size high digits [] is_size (omega arith)
      ∙ place_after-nil high (Size (digits_value 16 digits))

  -- bytes that end in a size over the limit
  pub large_is : (bs : List ℕ) → EndsInLargeSize limit bs → At bs ≡ TooLarge
  large_is bs (chunks, digits, are, is_size, text, large) =
      let value = digits_value 16 digits in
      let high = value + length (chunks_bytes chunks) in
      let leads : place_after high Start bs ≡ Size value = large_leads bs high (chunks, digits, are, is_size, text, large) (omega arith) in
      ⊎_elim (λ e. e)
      (λ same. let at : At bs ≡ Size value = sym same ∙ leads in
      let read : Reads limit 0 (Size value) bs (parts_begun limit Start 0 bs) =
      subst (λ p. Reads limit 0 p bs (parts_begun limit Start 0 bs)) at (reads_input limit 0 bs (λ e. cc)) in
      absurd (omega (arith, read.small)))
      (place_same limit high (omega arith) bs Start)

  -- bad bytes become no body
  pub bad_never : (bs : List ℕ) → At bs ≡ Bad → ¬ (MayBecomeChunked bs)
  bad_never bs bad (body, more, is, text) =
      let e : At (chunked_bytes body ++ []) ≡ Bad = ap (place_after limit Start) (append-nil (chunked_bytes body) ∙ sym text) ∙ place_after-append limit Start bs more ∙ ap (λ p. place_after limit p more) bad ∙ bad_stays limit more in
      let nil = place_after-nil limit Done in
      ⊎_elim (λ large. cc) (λ done. cc) (behind_body body [] is)

  -- a whole body
  pub done_reads : (at : ℕ) (bs : List ℕ) → At bs ≡ Done → IsRead limit at bs (parts_begun limit Start at bs)
  done_reads at bs done = subst (λ p. Reads limit at p bs (parts_begun limit Start at bs)) done (reads_input limit at bs (λ e. cc))

  -- some bytes lead from any place to the end of a body
  abbrev CanFinish : ChunkedPlace → Type 0
  CanFinish place = (more : List ℕ) × (place_after limit place more ≡ Done)

  finish_by : (b : ℕ) (place next : ChunkedPlace) → next_place limit place b ≡ next → CanFinish next → CanFinish place
  finish_by b place next e h = (b ∷ h.0, by_byte limit place next b h.0 e ∙ h.1)

  finish_trailers : CanFinish TrailerStart
  finish_trailers = finish_by 13 TrailerStart EndLf refl (finish_by 10 EndLf Done refl ([], place_after-nil limit Done))

  -- the shortest last chunk, and the end
  finish_start : CanFinish Start
  finish_start =
      let zero : next_place limit Start 48 ≡ Size 0 = grind (arith, nat_tests) in
      finish_by 48 Start (Size 0) zero (finish_by 13 (Size 0) (SizeLf 0) refl (finish_by 10 (SizeLf 0) TrailerStart refl finish_trailers))

  finish_data_cr : CanFinish DataCr
  finish_data_cr = finish_by 13 DataCr DataLf refl (finish_by 10 DataLf Start refl finish_start)

  finish_data : (left : ℕ) → CanFinish (Data left)
  finish_data left = by_test (eqb left 0) refl
    where
      by_test : (t : Bool) → eqb left 0 ≡ t → CanFinish (Data left)
      by_test true none =
          let last : next_place limit (Data left) 0 ≡ DataCr = grind (arith, nat_tests) in
          finish_by 0 (Data left) DataCr last finish_data_cr
      by_test false some =
          let xs = replicate {A = ℕ} left 0 in
          let long : length xs ≡ left = length-replicate left 0 in (
            xs ++ finish_data_cr.0,
            place_after-append limit (Data left) xs finish_data_cr.0
                ∙ ap (λ p. place_after limit p finish_data_cr.0) (data_all limit xs left (omega (arith, eqb-false left 0 some)) long)
                ∙ finish_data_cr.1,
          )

  finish_line : (size : ℕ) → CanFinish (SizeLf size)
  finish_line size = by_test (eqb size 0) refl
    where
      by_test : (t : Bool) → eqb size 0 ≡ t → CanFinish (SizeLf size)
      by_test true none = finish_by 10 (SizeLf size) TrailerStart (ap (λ t. cond t TrailerStart (Data size)) none) finish_trailers
      by_test false some = finish_by 10 (SizeLf size) (Data size) (ap (λ t. cond t TrailerStart (Data size)) some) (finish_data size)

  finish : (place : ChunkedPlace) → is_settled place ≡ false → CanFinish place
  finish Start live = finish_start
  finish (Size n) live = finish_by 13 (Size n) (SizeLf n) refl (finish_line n)
  finish (Extension n) live = finish_by 13 (Extension n) (SizeLf n) refl (finish_line n)
  finish (SizeLf n) live = finish_line n
  finish (Data n) live = finish_data n
  finish DataCr live = finish_data_cr
  finish DataLf live = finish_by 10 DataLf Start refl finish_start
  finish TrailerStart live = finish_trailers
  finish Trailer live = finish_by 13 Trailer TrailerLf refl (finish_by 10 TrailerLf TrailerStart refl finish_trailers)
  finish TrailerLf live = finish_by 10 TrailerLf TrailerStart refl finish_trailers
  finish EndLf live = finish_by 10 EndLf Done refl ([], place_after-nil limit Done)
  finish Done live = cc
  finish Bad live = cc
  finish TooLarge live = cc

  -- nothing settled, nothing decided
  pub open_is_undecided : (bs : List ℕ) → is_settled (At bs) ≡ false → IsUndecidedChunked limit bs
  open_is_undecided bs live =
      let f = finish (At bs) live in
      let whole : At (bs ++ f.0) ≡ Done = place_after-append limit Start bs f.0 ∙ f.1 in
      let read = done_reads 0 (bs ++ f.0) whole in
      record {
        may_become = (read.body, f.0, read.is_body, read.text);
        not_whole = λ body rest is text.
            let here : At bs ≡ At (chunked_bytes body ++ rest) = ap (place_after limit Start) text in
            let settled = settled_stays limit Done rest refl in
            ⊎_elim (λ large. let e : is_settled (At bs) ≡ true = ap is_settled (here ∙ large) in cc)
            (λ done. let e : is_settled (At bs) ≡ true = ap is_settled (here ∙ done) ∙ settled in cc)
            (behind_body body rest is);
        small = λ front rest text large.
            let e : At bs ≡ TooLarge = ap (place_after limit Start) text ∙ place_after-append limit Start front rest ∙ ap (λ p. place_after limit p rest) (large_is front large) ∙ too_large_stays limit rest in
            let settled : is_settled (At bs) ≡ true = ap is_settled e in
            cc;
      }

  -- two ways to cut a text: the first cut isn't after the byte, or it is
  pub cut : (p rest front z : List ℕ) (b : ℕ) → p ++ rest ≡ front ++ b ∷ z → ((x : List ℕ) × (front ≡ p ++ x)) ⊎ ((x : List ℕ) × (p ≡ (front ++ b ∷ []) ++ x))
  cut [] rest front z b e = inl (front, refl)
  cut (a ∷ p) rest [] z b e = let h : a ≡ b = cc in inr (p, ap (λ x. x ∷ p) h)
  cut (a ∷ p) rest (d ∷ front) z b e =
      let h : a ≡ d = cc in
      let t : p ++ rest ≡ front ++ b ∷ z = cc in
      ⊎_elim (λ w. inl (w.0, λ i. sym h i ∷ w.1 i)) (λ w. inr (w.0, λ i. h i ∷ w.1 i)) (cut p rest front z b t)

  -- where a byte decides, and no body begins with the bytes so far
  module _ (input front rest : List ℕ) (b : ℕ) (is : input ≡ front ++ b ∷ rest) (undecided : IsUndecidedChunked limit front) where
    never : ((body : ChunkedBody) (x : List ℕ) → IsChunkedBody body → HasSizes limit body → ¬ (chunked_bytes body ≡ (front ++ b ∷ []) ++ x)) → NeverHasChunked limit input
    never none more body behind (is_body, fits, text) =
        let here : chunked_bytes body ++ behind ≡ front ++ b ∷ (rest ++ more) = sym text ∙ ap (λ t. t ++ more) is ∙ append_assoc front (b ∷ rest) more in
        ⊎_elim (λ w. undecided.not_whole body w.0 is_body w.1) (λ w. none body w.0 is_body fits w.1)
        (cut (chunked_bytes body) behind front (rest ++ more) b here)

    pub bad_decides : At (front ++ b ∷ []) ≡ Bad → IsDecidedBy limit input (λ bytes. ¬ (MayBecomeChunked bytes)) × NeverHasChunked limit input
    bad_decides bad =
        let not_one = bad_never (front ++ b ∷ []) bad in
        ((front, b, rest, is, undecided, not_one), never (λ body x is_body fits e. not_one (body, x, is_body, sym e)))

    pub large_decides : At (front ++ b ∷ []) ≡ TooLarge → EndsInLargeSize limit (front ++ b ∷ []) → IsDecidedBy limit input (EndsInLargeSize limit) × NeverHasChunked limit input
    large_decides large ends = (
      (front, b, rest, is, undecided, ends),
      never (λ body x is_body fits e.
          let done : At (chunked_bytes body) ≡ Done = ap (place_after limit Start) (sym (append-nil (chunked_bytes body))) ∙ run_body limit body [] is_body fits ∙ place_after-nil limit Done in
          let over : At (chunked_bytes body) ≡ TooLarge = ap (place_after limit Start) e ∙ place_after-append limit Start (front ++ b ∷ []) x ∙ ap (λ p. place_after limit p x) large ∙ too_large_stays limit x in
          cc),
    )

  -- the byte with which a size goes over the limit
  pub ends_in_large : (front : List ℕ) (b : ℕ) → is_settled (At front) ≡ false → At (front ++ b ∷ []) ≡ TooLarge → EndsInLargeSize limit (front ++ b ∷ [])
  ends_in_large front b live over =
      let read = reads_byte limit 0 b front (parts_begun limit Start 0 front) (At front) live (reads_input limit 0 front (λ e. let settled : is_settled (At front) ≡ true = ap is_settled e in cc)) in
      let next : next_place limit (At front) b ≡ TooLarge = sym (place_after-nil limit _) ∙ sym (place_after-cons limit (At front) b []) ∙ sym (place_after-append limit Start front (b ∷ [])) ∙ over in
      at_large (next_place limit (At front) b) _ next read
    where
      at_large : (place : ChunkedPlace) (parts : List Part) → place ≡ TooLarge → Reads limit 0 place (front ++ b ∷ []) parts → EndsInLargeSize limit (front ++ b ∷ [])
      at_large place parts e h = subst (λ p. Reads limit 0 p (front ++ b ∷ []) parts) e h
