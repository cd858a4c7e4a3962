-- The parts that a reader finds on its way through a whole body.
use Rattle.std.proofs.Common.{◌≡◌, ℕ, suc, ◌+◌, ◌-◌, ◌<◌, ◌≤◌, Bool, true, false, nat_le, List, [], ◌∷◌, ◌++◌, length, take, drop, refl, sym, ap, ◌∙◌, arith}
use Rattle.std.proofs.lemmas.List.{append-nil, take-append-drop, take_all, take_rest, length-take-le, length-drop, length-append, length_push}
use Rattle.std.proofs.Math.Seq.{take-add}
use Rattle.std.proofs.lemmas.Bool.{leb-true, leb-false}
use Rattle.mx_body.specs.declared.part.Part.{Part}
use Rattle.mx_body.specs.declared.chunked.place.ChunkedPlace.{ChunkedPlace}
use Rattle.mx_body.specs.declared.chunked.place.ChunkedPlace.TheVariants.{Start, Size, Extension, SizeLf, Data, DataCr, DataLf, TrailerStart, Trailer, TrailerLf, EndLf, Done, Bad, TooLarge}
use Rattle.mx_body.specs.Chunked.{ChunkedBody, IsChunkedBody, chunked_bytes, chunk_parts}
use Rattle.mx_body.specs.ChunkedPlace.{place_after, data_left, begun, parts_begun}
use Rattle.mx_body.proofs.ChunkedRun.{place_after-nil, place_after-append, by_byte, data_more, parts_begun-append}
use Rattle.mx_body.proofs.ChunkedComplete.{run_body}
use Rattle.mx_body.proofs.ChunkedLemmas.{body_sizes_fit, done_reads}
use Rattle.mx_body.proofs.ChunkedUnique.{body_unique}

-- data that a whole body still has is there
data_fits : (limit : ℕ) (xs : List ℕ) (left : ℕ) → place_after limit (Data left) xs ≡ Done → left ≤ length xs
data_fits limit [] left done = let here = place_after-nil limit (Data left) in cc
data_fits limit (b ∷ []) left done = by_test (nat_le left 1) refl
  where
    by_test : (t : Bool) → nat_le left 1 ≡ t → left ≤ 1
    by_test true is = leb-true left 1 is
    by_test false is =
        let over : 1 < left = leb-false left 1 is in
        let here : place_after limit (Data left) (b ∷ []) ≡ Data (left - 1) = by_byte limit _ _ b [] (data_more limit left b over) ∙ place_after-nil limit _ in
        absurd (cc)
data_fits limit (b ∷ d ∷ xs) left done = by_test (nat_le left 1) refl (data_fits limit (d ∷ xs) (left - 1))
  where
    by_test : (t : Bool) → nat_le left 1 ≡ t → (place_after limit (Data (left - 1)) (d ∷ xs) ≡ Done → left - 1 ≤ suc (length xs)) → left ≤ suc (suc (length xs))
    by_test true is later = omega (arith, leb-true left 1 is)
    by_test false is later = omega (arith, later (sym (by_byte limit _ _ b (d ∷ xs) (data_more limit left b (leb-false left 1 is))) ∙ done))

module _ (limit at : ℕ) (input : List ℕ) where
  abbrev At : ℕ → ChunkedPlace
  At n = place_after limit Start (take n input)

  -- the parts, a piece of the rest on
  -- the parts begun further on, by the offset after the bytes that begin them
  pub further_begun : (n len : ℕ) (place : ChunkedPlace) (more : ℕ → List Part) → n ≤ length input → At n ≡ place
      → parts_begun limit place (at + n) (take len (take (length input - n) (drop n input))) ≡ more (at + n + len)
      → parts_begun limit Start at (take (n + len) input) ≡ parts_begun limit Start at (take n input) ++ more (at + (n + len))
  further_begun n len place more within here begins =
      let front = take n input in
      let piece = take len (drop n input) in
      let offset : at + length front ≡ at + n = omega (arith, length-take-le n input within) in
      let regrouped : at + n + len ≡ at + (n + len) = omega arith in
      ap (parts_begun limit Start at) (take-add n len input)
      ∙ parts_begun-append limit Start at front piece
      ∙ ap (λ p. parts_begun limit Start at front ++ parts_begun limit p (at + length front) piece) here
      ∙ ap (λ m. parts_begun limit Start at front ++ parts_begun limit place m piece) offset
      ∙ ap (λ t. parts_begun limit Start at front ++ parts_begun limit place (at + n) (take len t)) (sym (take_rest input n))
      ∙ ap (λ ps. parts_begun limit Start at front ++ ps) (begins ∙ ap more regrouped)

  pub further_parts : (n len : ℕ) (place next : ChunkedPlace) → n ≤ length input → At n ≡ place
      → parts_begun limit place (at + n) (take len (take (length input - n) (drop n input))) ≡ begun place next (at + n + len)
      → parts_begun limit Start at (take (n + len) input) ≡ parts_begun limit Start at (take n input) ++ begun place next (at + (n + len))
  further_parts n len place next = further_begun n len place (begun place next)

  module _ (body : ChunkedBody) (is : IsChunkedBody body) (text : input ≡ chunked_bytes body) (fits : length input ≤ limit) where
    ends : place_after limit Start input ≡ Done
    ends =
        ap (place_after limit Start) (text ∙ sym (append-nil (chunked_bytes body)))
        ∙ run_body limit body [] is (body_sizes_fit body limit is (omega (arith, ap length text)))
        ∙ place_after-nil limit Done

    -- the data that begins at a place is in the input
    pub has_room : (n : ℕ) (place : ChunkedPlace) → n ≤ length input → At n ≡ place → n + data_left place ≤ length input
    has_room n (Data left) within here =
        let back : place_after limit (Data left) (drop n input) ≡ Done =
        ap (λ p. place_after limit p (drop n input)) (sym here) ∙ sym (place_after-append limit Start (take n input) (drop n input)) ∙ ap (place_after limit Start) (take-append-drop n input) ∙ ends in
        omega (arith, data_fits limit (drop n input) left back, length-drop n input)
    has_room n Start within here = omega arith
    has_room n (Size m) within here = omega arith
    has_room n (Extension m) within here = omega arith
    has_room n (SizeLf m) within here = omega arith
    has_room n DataCr within here = omega arith
    has_room n DataLf within here = omega arith
    has_room n TrailerStart within here = omega arith
    has_room n Trailer within here = omega arith
    has_room n TrailerLf within here = omega arith
    has_room n EndLf within here = omega arith
    has_room n Done within here = omega arith
    has_room n Bad within here = omega arith
    has_room n TooLarge within here = omega arith

    -- all the parts
    pub all_parts : (n : ℕ) → length input ≤ n → parts_begun limit Start at (take n input) ≡ chunk_parts at body.chunks
    all_parts n all =
        let read = done_reads limit at input ends in
        let texts : chunked_bytes read.body ++ [] ≡ chunked_bytes body ++ [] = ap (λ t. t ++ []) (sym read.text ∙ text) in
        let same = body_unique read.body body [] [] read.is_body is texts in
        ap (parts_begun limit Start at) (take_all n input all) ∙ read.parts_are ∙ ap (λ (b : ChunkedBody). chunk_parts at b.chunks) same.0

    -- a part begun is a chunk's
    pub has_chunk : (n : ℕ) (front : List Part) (p : Part) → parts_begun limit Start at (take n input) ≡ front ++ p ∷ [] → ¬ (body.chunks ≡ [])
    has_chunk n front p begins none =
        let later = parts_begun limit (At n) (at + length (take n input)) (drop n input) in
        let whole : parts_begun limit Start at (take (length input) input) ≡ (front ++ p ∷ []) ++ later =
        ap (parts_begun limit Start at) (take_all (length input) input (omega arith) ∙ sym (take-append-drop n input))
        ∙ parts_begun-append limit Start at (take n input) (drop n input) ∙ ap (λ ps. ps ++ later) begins in
        let empty : chunk_parts at body.chunks ≡ [] = ap (chunk_parts at) none in
        let lengths = ap length (sym whole ∙ all_parts (length input) (omega arith) ∙ empty) in
        absurd (omega (arith, lengths, length-append (front ++ p ∷ []) later, length_push front p))
