-- The data among the bytes of a chunked body.
use Rattle.std.proofs.Common.{◌≡◌, ℕ, suc, ◌+◌, ◌-◌, ◌<◌, ◌≤◌, Bool, true, false, cond, eqb, nat_le, List, [], ◌∷◌, ◌++◌, length, get_or, take, drop, refl, sym, ap, ◌∙◌, subst, arith, length-append}
use Rattle.std.specs.Prelude.{slice_range, ◌||◌, ◌==◌, ◌*◌}
use Rattle.std.proofs.lemmas.List.{append_assoc, append-nil, take_rest, take_more}
use Rattle.std.proofs.lemmas.Bool.Decides.{nat_tests}
use Rattle.std.proofs.lemmas.Bool.{eqb-true, eqb-false, leb-true, leb-false}
use Rattle.std.proofs.lemmas.Grind.{flat_map-append}
use Rattle.std.proofs.Math.Seq.{take-nil, take-add, drop-append-add}
use Rattle.std.specs.Char.{is_ascii_hexdigit, digit_value}
use Rattle.mx_body.specs.declared.part.Part.{Part}
use Rattle.mx_body.specs.declared.chunked.place.ChunkedPlace.{ChunkedPlace}
use Rattle.mx_body.specs.declared.chunked.place.ChunkedPlace.TheVariants.{Start, Size, Extension, SizeLf, Data, DataCr, DataLf, TrailerStart, Trailer, TrailerLf, EndLf, Done, Bad, TooLarge}
use Rattle.mx_body.specs.Chunked.{ChunkedBody, chunked_bytes, chunk_parts, IsChunked}
use Rattle.mx_body.specs.ChunkedPlace.{sized, after_digits, in_line, expect, next_place, place_after, data_left, begun, parts_begun}
use Rattle.mx_body.specs.Parts.{joined}
use Rattle.mx_body.proofs.ChunkedRun.{place_after-nil, place_after-append, data_more, data_part, data_all, parts_begun-nil, parts_begun-cons}
use Rattle.mx_body.proofs.ChunkedLemmas.{done_reads}
use Rattle.mx_body.proofs.ChunkedComplete.{run_body}
use Rattle.mx_body.proofs.ChunkedUnique.{body_unique}
use Rattle.mx_body.proofs.ChunkedLawProofs.{parts_are_the_data}
use Rattle.mx_flow.specs.Data.{datum, data_from}

module _ (limit : ℕ) where
  pub data_from-nil : (place : ChunkedPlace) → data_from limit place [] ≡ []
  unfolding data_from
  data_from-nil place = refl

  pub data_from-cons : (place : ChunkedPlace) (b : ℕ) (bytes : List ℕ)
      → data_from limit place (b ∷ bytes) ≡ datum place b ++ data_from limit (next_place limit place b) bytes
  unfolding data_from
  data_from-cons place b bytes = refl

  pub data_from-append : (place : ChunkedPlace) (xs ys : List ℕ)
      → data_from limit place (xs ++ ys) ≡ data_from limit place xs ++ data_from limit (place_after limit place xs) ys
  unfolding data_from place_after
  data_from-append place [] ys = refl
  data_from-append place (b ∷ xs) ys =
      ap (λ t. datum place b ++ t) (data_from-append (next_place limit place b) xs ys)
      ∙ sym (append_assoc (datum place b) _ _)

  -- data are among the bytes
  one_datum : (place : ChunkedPlace) (b : ℕ) → length (datum place b) ≤ 1
  one_datum (Data left) b = by_test (eqb left 0)
    where
      by_test : (t : Bool) → length {A = ℕ} (cond t [] (b ∷ [])) ≤ 1
      by_test true = omega arith
      by_test false = omega arith
  one_datum Start b = omega arith
  one_datum (Size n) b = omega arith
  one_datum (Extension n) b = omega arith
  one_datum (SizeLf n) b = omega arith
  one_datum DataCr b = omega arith
  one_datum DataLf b = omega arith
  one_datum TrailerStart b = omega arith
  one_datum Trailer b = omega arith
  one_datum TrailerLf b = omega arith
  one_datum EndLf b = omega arith
  one_datum Done b = omega arith
  one_datum Bad b = omega arith
  one_datum TooLarge b = omega arith

  pub data_short : (place : ChunkedPlace) (bytes : List ℕ) → length (data_from limit place bytes) ≤ length bytes
  data_short place [] = omega (arith, ap length (data_from-nil place))
  data_short place (b ∷ bytes) =
      let next = next_place limit place b in
      omega (arith, ap length (data_from-cons place b bytes), length-append (datum place b) (data_from limit next bytes), one_datum place b, data_short next bytes)

  -- data of one chunk are all handed on
  pub data_run : (xs : List ℕ) (left : ℕ) → length xs ≤ left → data_from limit (Data left) xs ≡ xs
  data_run [] left fits = data_from-nil (Data left)
  data_run (b ∷ []) left fits =
      let one : datum (Data left) b ≡ b ∷ [] = grind (arith, nat_tests) in
      data_from-cons (Data left) b [] ∙ ap (λ t. t ++ data_from limit (next_place limit (Data left) b) []) one
      ∙ ap (λ t. b ∷ t) (data_from-nil _)
  data_run (b ∷ d ∷ xs) left fits =
      let one : datum (Data left) b ≡ b ∷ [] = grind (arith, nat_tests) in
      data_from-cons (Data left) b (d ∷ xs) ∙ ap (λ t. t ++ data_from limit (next_place limit (Data left) b) (d ∷ xs)) one
      ∙ ap (λ p. b ∷ data_from limit p (d ∷ xs)) (data_more limit left b (omega arith))
      ∙ ap (λ t. b ∷ t) (data_run (d ∷ xs) (left - 1) (omega arith))

  no_data : (t : Bool) (p r : ChunkedPlace) → data_left p ≡ 0 → data_left r ≡ 0 → data_left (cond t p r) ≡ 0
  no_data true p r h k = h
  no_data false p r h k = k

  sized_none : (n : ℕ) → data_left (sized limit n) ≡ 0
  sized_none n = no_data (nat_le n limit) (Size n) TooLarge refl refl

  digits_none : (size b : ℕ) → data_left (after_digits size b) ≡ 0
  digits_none size b = no_data ((b == 32 || b == 9) || b == 59) (Extension size) (cond (b == 13) (SizeLf size) Bad) refl (no_data (b == 13) (SizeLf size) Bad refl refl)

  line_none : (b : ℕ) (on ends : ChunkedPlace) → data_left on ≡ 0 → data_left ends ≡ 0 → data_left (in_line b on ends) ≡ 0
  line_none b on ends h k = no_data (b == 13) ends (cond (b == 10) Bad on) k (no_data (b == 10) Bad on refl h)

  expect_none : (b wanted : ℕ) (next : ChunkedPlace) → data_left next ≡ 0 → data_left (expect b wanted next) ≡ 0
  expect_none b wanted next h = no_data (b == wanted) next Bad h refl

  nothing : (n : ℕ) (bs : List ℕ) → n ≡ 0 → take n bs ≡ []
  nothing n bs e = ap (λ k. take k bs) e

  -- the data that a byte begins, behind so many
  module _ (b : ℕ) (bs front : List ℕ) where
    abbrev at : ℕ
    at = length front + 1

    abbrev text : List ℕ
    text = front ++ b ∷ bs

    begun_data : (size : ℕ) → joined text (record { start = at; end = at + size } ∷ []) ≡ take size bs
    begun_data size =
        let len : at + size - at ≡ size = omega arith in
        append-nil (slice_range text at (at + size)) ∙ ap (λ n. take n (drop at text)) len ∙ ap (take size) (drop-append-add front (b ∷ bs) 1)

    at_line : (size : ℕ) (t u : Bool) → take (data_left (cond t (cond u TrailerStart (Data size)) Bad)) bs
        ≡ joined text (begun (SizeLf size) (cond t (cond u TrailerStart (Data size)) Bad) at)
    at_line size true true = refl
    at_line size true false = sym (begun_data size)
    at_line size false u = refl

    abbrev Steps : ChunkedPlace → Type 0
    Steps place = datum place b ++ take (data_left (next_place limit place b)) bs
        ≡ take (data_left place) (b ∷ bs) ++ joined text (begun place (next_place limit place b) at)

    at_data : (left : ℕ) → Steps (Data left)
    at_data left = by_test (eqb left 0) refl (nat_le left 1) refl
      where
        by_test : (t : Bool) → eqb left 0 ≡ t → (u : Bool) → nat_le left 1 ≡ u → Steps (Data left)
        by_test true none u is = subst (λ n. Steps (Data n)) (sym (eqb-true left 0 none)) refl
        by_test false some true last =
            let one : left ≡ 1 = omega (arith, eqb-false left 0 some, leb-true left 1 last) in
            subst (λ n. Steps (Data n)) (sym one) refl
        by_test false some false more =
            let over : 1 < left = leb-false left 1 more in
            let one : datum (Data left) b ≡ b ∷ [] = ap (λ t. cond t [] (b ∷ [])) some in
            let next = data_more limit left b over in
            let same : left ≡ suc (left - 1) = omega (arith, over) in
            ap (λ t. t ++ take (data_left (next_place limit (Data left) b)) bs) one
            ∙ ap (λ p. b ∷ take (data_left p) bs) next
            ∙ sym (ap (λ n. take n (b ∷ bs)) same)
            ∙ sym (append-nil (take left (b ∷ bs)))
            ∙ ap (λ p. take left (b ∷ bs) ++ joined text (begun (Data left) p at)) (sym next)

    step : (place : ChunkedPlace) → Steps place
    step Start = nothing _ bs (no_data (is_ascii_hexdigit b) (sized limit (digit_value b)) Bad (sized_none (digit_value b)) refl)
    step (Size n) = nothing _ bs (no_data (is_ascii_hexdigit b) (sized limit (n * 16 + digit_value b)) (after_digits n b) (sized_none (n * 16 + digit_value b)) (digits_none n b))
    step (Extension n) = nothing _ bs (line_none b (Extension n) (SizeLf n) refl refl)
    step (SizeLf size) = at_line size (eqb b 10) (eqb size 0)
    step (Data left) = at_data left
    step DataCr = nothing _ bs (expect_none b 13 DataLf refl)
    step DataLf = nothing _ bs (expect_none b 10 Start refl)
    step TrailerStart = nothing _ bs (line_none b Trailer EndLf refl refl)
    step Trailer = nothing _ bs (line_none b Trailer TrailerLf refl refl)
    step TrailerLf = nothing _ bs (expect_none b 10 TrailerStart refl)
    step EndLf = nothing _ bs (expect_none b 10 Done refl)
    step Done = refl
    step Bad = refl
    step TooLarge = refl

  -- what is handed on of some bytes behind others: what is left of a chunk's data, and the parts that begin in them
  pub data_is_joined : (bs front : List ℕ) (place : ChunkedPlace)
      → data_from limit place bs ≡ take (data_left place) bs ++ joined (front ++ bs) (parts_begun limit place (length front) bs)
  data_is_joined [] front place =
      data_from-nil place ∙ sym (ap (λ t. t ++ []) (take-nil (data_left place)))
      ∙ ap (λ ps. take (data_left place) [] ++ joined (front ++ []) ps) (sym (parts_begun-nil limit place (length front)))
  data_is_joined (b ∷ bs) front place =
      let next = next_place limit place b in
      let whole = front ++ b ∷ bs in
      let begins = begun place next (length front + 1) in
      let later = parts_begun limit next (length front + 1) bs in
      let behind : length (front ++ b ∷ []) ≡ length front + 1 = length-append front (b ∷ []) in
      let rest = data_is_joined bs (front ++ b ∷ []) next
      ∙ ap (λ t. take (data_left next) bs ++ joined t (parts_begun limit next (length (front ++ b ∷ [])) bs)) (append_assoc front (b ∷ []) bs)
      ∙ ap (λ n. take (data_left next) bs ++ joined whole (parts_begun limit next n bs)) behind in
      data_from-cons place b bs
      ∙ ap (λ t. datum place b ++ t) rest
      ∙ sym (append_assoc (datum place b) (take (data_left next) bs) (joined whole later))
      ∙ ap (λ t. t ++ joined whole later) (step b bs front place)
      ∙ append_assoc (take (data_left place) (b ∷ bs)) (joined whole begins) (joined whole later)
      ∙ ap (λ t. take (data_left place) (b ∷ bs) ++ t) (sym (flat_map-append (λ (p : Part). slice_range whole p.start p.end) begins later))
      ∙ ap (λ ps. take (data_left place) (b ∷ bs) ++ joined whole ps) (sym (parts_begun-cons limit place (length front) b bs))

  -- the data of a whole body are handed on
  pub whole_data : (bytes : List ℕ) (parts : List Part) (data_bytes : List ℕ) → IsChunked limit 0 bytes parts data_bytes
      → data_from limit Start bytes ≡ data_bytes
  whole_data bytes parts data_bytes (body, is, small, text, parts_are, data_is) =
      let ends : place_after limit Start bytes ≡ Done =
      ap (place_after limit Start) (text ∙ sym (append-nil (chunked_bytes body))) ∙ run_body limit body [] is small ∙ place_after-nil limit Done in
      let read = done_reads limit 0 bytes ends in
      let texts : chunked_bytes read.body ++ [] ≡ chunked_bytes body ++ [] = ap (λ t. t ++ []) (sym read.text ∙ text) in
      let same = body_unique read.body body [] [] read.is_body is texts in
      let begins : parts_begun limit Start 0 bytes ≡ parts = read.parts_are ∙ ap (λ (b : ChunkedBody). chunk_parts 0 b.chunks) same.0 ∙ sym parts_are in
      let known = parts_are_the_data limit [] bytes [] parts data_bytes (body, is, small, text, parts_are, data_is) in
      data_is_joined bytes [] Start ∙ ap (joined bytes) begins ∙ ap (λ t. joined t parts) (sym (append-nil bytes)) ∙ known.1

-- a piece of an input further on, read from a place
module _ (limit : ℕ) (input : List ℕ) (from : ChunkedPlace) where
  piece : (at len : ℕ) → take (at + len) input ≡ take at input ++ take len (take (length input - at) (drop at input))
  piece at len = take-add at len input ∙ ap (λ t. take at input ++ take len t) (sym (take_rest input at))

  pub led_on : (at len : ℕ) (here next : ChunkedPlace) → here ≡ place_after limit from (take at input)
      → next ≡ place_after limit here (take len (take (length input - at) (drop at input))) → next ≡ place_after limit from (take (at + len) input)
  led_on at len here next was is =
      is ∙ ap (λ p. place_after limit p (take len (take (length input - at) (drop at input)))) was
      ∙ sym (ap (place_after limit from) (piece at len) ∙ place_after-append limit from (take at input) (take len (take (length input - at) (drop at input))))

  -- the data in it
  pub data_on : (at len : ℕ) (here : ChunkedPlace) → here ≡ place_after limit from (take at input)
      → data_from limit from (take (at + len) input)
      ≡ data_from limit from (take at input) ++ data_from limit here (take len (take (length input - at) (drop at input)))
  data_on at len here was =
      let more = take len (take (length input - at) (drop at input)) in
      ap (data_from limit from) (piece at len) ∙ data_from-append limit from (take at input) more
      ∙ ap (λ p. data_from limit from (take at input) ++ data_from limit p more) (sym was)

  pub handed_on : (at len : ℕ) (here : ChunkedPlace) (first before after : List ℕ) → here ≡ place_after limit from (take at input)
      → before ≡ first ++ data_from limit from (take at input)
      → after ≡ before ++ data_from limit here (take len (take (length input - at) (drop at input)))
      → after ≡ first ++ data_from limit from (take (at + len) input)
  handed_on at len here first before after was had is =
      let more = take len (take (length input - at) (drop at input)) in
      is ∙ ap (λ t. t ++ data_from limit here more) had
      ∙ append_assoc first (data_from limit from (take at input)) (data_from limit here more)
      ∙ ap (λ t. first ++ t) (sym (data_on at len here was))

  pub room_on : (at len : ℕ) (here : ChunkedPlace) (room left next : ℕ) → here ≡ place_after limit from (take at input)
      → left + length (data_from limit from (take at input)) ≡ room
      → next + length (data_from limit here (take len (take (length input - at) (drop at input)))) ≡ left
      → next + length (data_from limit from (take (at + len) input)) ≡ room
  room_on at len here room left next was had is =
      omega (arith, had, is, ap length (data_on at len here was), length-append (data_from limit from (take at input)) (data_from limit here (take len (take (length input - at) (drop at input)))))

-- a place that isn't within data
no_datum : (place : ChunkedPlace) (b : ℕ) → data_left place ≡ 0 → datum place b ≡ []
no_datum (Data left) b none = ap (λ n. datum (Data n) b) none
no_datum Start b none = refl
no_datum (Size n) b none = refl
no_datum (Extension n) b none = refl
no_datum (SizeLf n) b none = refl
no_datum DataCr b none = refl
no_datum DataLf b none = refl
no_datum TrailerStart b none = refl
no_datum Trailer b none = refl
no_datum TrailerLf b none = refl
no_datum EndLf b none = refl
no_datum Done b none = refl
no_datum Bad b none = refl
no_datum TooLarge b none = refl

-- and one that is
is_data : (place : ChunkedPlace) → 0 < data_left place → place ≡ Data (data_left place)
is_data (Data left) some = refl
is_data Start some = absurd (omega (arith, some))
is_data (Size n) some = absurd (omega (arith, some))
is_data (Extension n) some = absurd (omega (arith, some))
is_data (SizeLf n) some = absurd (omega (arith, some))
is_data DataCr some = absurd (omega (arith, some))
is_data DataLf some = absurd (omega (arith, some))
is_data TrailerStart some = absurd (omega (arith, some))
is_data Trailer some = absurd (omega (arith, some))
is_data TrailerLf some = absurd (omega (arith, some))
is_data EndLf some = absurd (omega (arith, some))
is_data Done some = absurd (omega (arith, some))
is_data Bad some = absurd (omega (arith, some))
is_data TooLarge some = absurd (omega (arith, some))

-- one byte that is no data
pub byte_data : (limit : ℕ) (place : ChunkedPlace) (bs : List ℕ) → data_left place ≡ 0 → data_from limit place (take 1 bs) ≡ []
byte_data limit place [] none = data_from-nil limit place
byte_data limit place (b ∷ bs) none =
    data_from-cons limit place b [] ∙ ap (λ t. datum place b ++ t) (data_from-nil limit _) ∙ append-nil (datum place b) ∙ no_datum place b none

-- where data lead, and what they are
abbrev pub behind : ℕ → ℕ → ChunkedPlace
behind left n = cond (eqb n left) DataCr (Data (left - n))

pub run_place : (limit : ℕ) (place : ChunkedPlace) (xs : List ℕ) → 0 < data_left place → length xs ≤ data_left place
    → place_after limit place xs ≡ behind (data_left place) (length xs)
run_place limit place xs some fits =
    ap (λ p. place_after limit p xs) (is_data place some) ∙ by_test (eqb (length xs) (data_left place)) refl
  where
    by_test : (t : Bool) → eqb (length xs) (data_left place) ≡ t → place_after limit (Data (data_left place)) xs ≡ cond t DataCr (Data (data_left place - length xs))
    by_test true all = data_all limit xs (data_left place) some (eqb-true (length xs) (data_left place) all)
    by_test false part = data_part limit xs (data_left place) (omega (arith, fits, eqb-false (length xs) (data_left place) part))

pub run_data : (limit : ℕ) (place : ChunkedPlace) (xs : List ℕ) → 0 < data_left place → length xs ≤ data_left place → data_from limit place xs ≡ xs
run_data limit place xs some fits = ap (λ p. data_from limit p xs) (is_data place some) ∙ data_run limit xs (data_left place) fits

-- a byte of data behind others
pub one_more : (limit : ℕ) (from here : ChunkedPlace) (at : ℕ) (input : List ℕ) → at < length input → here ≡ place_after limit from (take at input)
    → 0 < data_left here → (b : ℕ) × (data_from limit from (take (at + 1) input) ≡ data_from limit from (take at input) ++ b ∷ [])
one_more limit from here at input some was inside =
    let b = get_or input at 0 in
    let one = run_data limit here (b ∷ []) inside (omega (arith, inside)) in (
      b,
      ap (data_from limit from) (take_more input at 0 some) ∙ data_from-append limit from (take at input) (b ∷ [])
          ∙ ap (λ p. data_from limit from (take at input) ++ data_from limit p (b ∷ [])) (sym was)
          ∙ ap (λ t. data_from limit from (take at input) ++ t) one,
    )
