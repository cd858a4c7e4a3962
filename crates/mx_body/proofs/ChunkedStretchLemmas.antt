-- How a reader passes several bytes at once.
use Rattle.std.proofs.Common.{◌≡◌, ℕ, zero, suc, ◌+◌, ◌*◌, ◌<◌, ◌≤◌, Bool, true, false, not, cond, ◌||◌, List, [], ◌∷◌, ◌++◌, length, get_or, take, None, Some, ◌⊎◌, inl, inr, refl, sym, ap, subst, ◌∙◌, arith}
use Rattle.std.specs.Prelude.{Option, ◌==◌}
use Rattle.std.specs.Char.{digit_value, is_ascii_hexdigit}
use Rattle.std.proofs.lemmas.List.{take_more, length-take-le}
use Rattle.std.proofs.lemmas.Bool.Decides.{nat_tests}
use Rattle.mx_body.specs.declared.chunked.place.ChunkedPlace.{ChunkedPlace}
use Rattle.mx_body.specs.declared.chunked.place.ChunkedPlace.TheVariants.{Start, Size, Extension, SizeLf, Data, DataCr, DataLf, TrailerStart, Trailer, EndLf, TrailerLf, Bad}
use Rattle.mx_body.specs.Chunked.{is_line_byte}
use Rattle.mx_body.specs.ChunkedPlace.{sized, after_digits, in_line, after_line, next_place, place_after, is_settled, begun, parts_begun}
use Rattle.mx_body.specs.ChunkedStretch.{part_begun, IsStretch, GoesOn}
use Rattle.mx_body.proofs.ChunkedRun.{place_after-nil, place_after-cons, place_after-append, by_byte, data_all, data_begins_none, parts_begun-nil, parts_begun-cons, parts_begun-append}

abbrev crlf : List ℕ
crlf = 13 ∷ 10 ∷ []

-- the first of some digits
pub first_more : (n : ℕ) (input : List ℕ) → (0 < n → is_ascii_hexdigit (get_or input 0 0) ≡ true) → is_ascii_hexdigit (get_or input n 0) ≡ true
    → 0 < n + 1 → is_ascii_hexdigit (get_or input 0 0) ≡ true
first_more zero input old here some = here
first_more (suc n) input old here some = old (omega arith)

module _ (limit : ℕ) where
  -- bytes that end no line
  pub alone : (place next : ChunkedPlace) (n : ℕ) (input : List ℕ) → 0 < n → is_settled next ≡ false → GoesOn limit place next n input
      → IsStretch limit place input (record { next = next; len = n; ahead = None })
  alone place next n input some live g = record {
    moved = some;
    within = g.within;
    leads = g.leads;
    part = g.part;
    ahead = λ left e. absurd (cc);
    by_one_byte = λ settled. let both : true ≡ false = sym settled ∙ live in absurd (cc);
  }

  -- bytes, and the CRLF after them
  pub with_crlf : (place mid next : ChunkedPlace) (n : ℕ) (ahead : Option ℕ) (input : List ℕ) → n + 2 ≤ length input → take (n + 2) input ≡ take n input ++ 13 ∷ 10 ∷ [] → GoesOn limit place mid n input
      → place_after limit mid (13 ∷ 10 ∷ []) ≡ next → ((at : ℕ) → parts_begun limit mid at (13 ∷ 10 ∷ []) ≡ part_begun ahead (at + 2)) → ((left : ℕ) → ahead ≡ Some left → next ≡ Data left) → is_settled next ≡ false
      → IsStretch limit place input (record { next = next; len = n + 2; ahead = ahead })
  with_crlf place mid next n ahead input within text g leads begins is_data live = record {
    moved = omega arith;
    within = within;
    leads = ap (place_after limit place) text ∙ place_after-append limit place (take n input) crlf ∙ ap (λ p. place_after limit p crlf) g.leads ∙ leads;
    part = λ at.
        let offset : at + length (take n input) + 2 ≡ at + (n + 2) = omega (arith, length-take-le n input g.within) in
        ap (parts_begun limit place at) text ∙ parts_begun-append limit place at (take n input) crlf
        ∙ ap (λ ps. ps ++ parts_begun limit (place_after limit place (take n input)) (at + length (take n input)) crlf) (g.part at)
        ∙ ap (λ p. parts_begun limit p (at + length (take n input)) crlf) g.leads
        ∙ begins (at + length (take n input))
        ∙ ap (part_begun ahead) offset;
    ahead = is_data;
    by_one_byte = λ settled. let both : true ≡ false = sym settled ∙ live in absurd (cc);
  }

  -- no byte
  pub stays_there : (place : ChunkedPlace) (input : List ℕ) → GoesOn limit place place 0 input
  stays_there place input = record { within = omega arith; leads = place_after-nil limit place; part = λ at. parts_begun-nil limit place at }

  -- what CR LF leads to
  two : (place mid next : ChunkedPlace) → next_place limit place 13 ≡ mid → next_place limit mid 10 ≡ next → place_after limit place (13 ∷ 10 ∷ []) ≡ next
  two place mid next e f = by_byte limit place mid 13 (10 ∷ []) e ∙ by_byte limit mid next 10 [] f ∙ place_after-nil limit next

  two_begin : (place mid next : ChunkedPlace) (at : ℕ) → next_place limit place 13 ≡ mid → next_place limit mid 10 ≡ next → begun place mid (at + 1) ≡ []
      → parts_begun limit place at (13 ∷ 10 ∷ []) ≡ begun mid next (at + 1 + 1) ++ []
  two_begin place mid next at e f none =
      parts_begun-cons limit place at 13 (10 ∷ [])
      ∙ ap (λ p. begun place p (at + 1) ++ parts_begun limit p (at + 1) (10 ∷ [])) e
      ∙ ap (λ ps. ps ++ parts_begun limit mid (at + 1) (10 ∷ [])) none
      ∙ parts_begun-cons limit mid (at + 1) 10 []
      ∙ ap (λ p. begun mid p (at + 1 + 1) ++ parts_begun limit p (at + 1 + 1) []) f
      ∙ ap (λ ps. begun mid next (at + 1 + 1) ++ ps) (parts_begun-nil limit next (at + 1 + 1))

  abbrev data_of : ℕ → Option ℕ
  data_of size = cond (size == 0) None (Some size)

  line_begins : (size at : ℕ) → begun (SizeLf size) (after_line size) (at + 1 + 1) ++ [] ≡ part_begun (data_of size) (at + 2)
  line_begins size at = by_test (size == 0)
    where
      by_test : (t : Bool) → begun (SizeLf size) (cond t TrailerStart (Data size)) (at + 1 + 1) ++ [] ≡ part_begun (cond t None (Some size)) (at + 2)
      by_test true = refl
      by_test false = let same : at + 1 + 1 ≡ at + 2 = omega arith in ap (part_begun (Some size)) same

  line_data : (size left : ℕ) → data_of size ≡ Some left → after_line size ≡ Data left
  line_data size left = by_test (size == 0)
    where
      by_test : (t : Bool) → cond t None (Some size) ≡ Some left → cond t TrailerStart (Data size) ≡ Data left
      by_test true e = absurd (cc)
      by_test false e = let same : size ≡ left = cc in ap Data same

  line_open : (size : ℕ) → is_settled (after_line size) ≡ false
  line_open size = by_test (size == 0)
    where
      by_test : (t : Bool) → is_settled (cond t TrailerStart (Data size)) ≡ false
      by_test true = refl
      by_test false = refl

  -- a size line that ends after its digits, and after its extension
  pub size_ends : (place : ChunkedPlace) (size n : ℕ) (input : List ℕ) → n + 2 ≤ length input → take (n + 2) input ≡ take n input ++ 13 ∷ 10 ∷ [] → GoesOn limit place (Size size) n input
      → IsStretch limit place input (record { next = after_line size; len = n + 2; ahead = cond (size == 0) None (Some size) })
  size_ends place size n input within text g =
      with_crlf place (Size size) (after_line size) n (data_of size) input within text g (two (Size size) (SizeLf size) (after_line size) refl refl)
      (λ at. two_begin (Size size) (SizeLf size) (after_line size) at refl refl refl ∙ line_begins size at) (line_data size) (line_open size)

  pub extension_ends : (place : ChunkedPlace) (size n : ℕ) (input : List ℕ) → n + 2 ≤ length input → take (n + 2) input ≡ take n input ++ 13 ∷ 10 ∷ [] → GoesOn limit place (Extension size) n input
      → IsStretch limit place input (record { next = after_line size; len = n + 2; ahead = cond (size == 0) None (Some size) })
  extension_ends place size n input within text g =
      with_crlf place (Extension size) (after_line size) n (data_of size) input within text g (two (Extension size) (SizeLf size) (after_line size) refl refl)
      (λ at. two_begin (Extension size) (SizeLf size) (after_line size) at refl refl refl ∙ line_begins size at) (line_data size) (line_open size)

  -- a trailer line, and data, with their CRLF
  pub trailer_ends : (place : ChunkedPlace) (n : ℕ) (input : List ℕ) → n + 2 ≤ length input → take (n + 2) input ≡ take n input ++ 13 ∷ 10 ∷ [] → GoesOn limit place Trailer n input
      → IsStretch limit place input (record { next = TrailerStart; len = n + 2; ahead = None })
  trailer_ends place n input within text g =
      with_crlf place Trailer TrailerStart n None input within text g (two Trailer TrailerLf TrailerStart refl refl)
      (λ at. two_begin Trailer TrailerLf TrailerStart at refl refl refl) (λ left e. absurd (cc)) refl

  -- a digit more
  sized_small : (m : ℕ) → m ≤ limit → sized limit m ≡ Size m
  sized_small m small = grind (arith, nat_tests)

  pub digit_more : (size v d n : ℕ) (input : List ℕ) → GoesOn limit (Size size) (Size v) n input → n < length input → is_ascii_hexdigit (get_or input n 0) ≡ true → d ≡ digit_value (get_or input n 0) → v * 16 + d ≤ limit
      → GoesOn limit (Size size) (Size (v * 16 + d)) (n + 1) input
  digit_more size v d n input g inside hex is small =
      let b = get_or input n 0 in
      let text = take_more input n 0 inside in
      let step : next_place limit (Size v) b ≡ Size (v * 16 + d) =
      ap (λ t. cond t (sized limit (v * 16 + digit_value b)) (after_digits v b)) hex ∙ ap (λ k. sized limit (v * 16 + k)) (sym is) ∙ sized_small (v * 16 + d) small in
      record {
        within = omega arith;
        leads = ap (place_after limit (Size size)) text ∙ place_after-append limit (Size size) (take n input) (b ∷ []) ∙ ap (λ p. place_after limit p (b ∷ [])) g.leads
            ∙ by_byte limit (Size v) (Size (v * 16 + d)) b [] step ∙ place_after-nil limit _;
        part = λ at.
            ap (parts_begun limit (Size size) at) text ∙ parts_begun-append limit (Size size) at (take n input) (b ∷ [])
            ∙ ap (λ ps. ps ++ parts_begun limit (place_after limit (Size size) (take n input)) (at + length (take n input)) (b ∷ [])) (g.part at)
            ∙ ap (λ p. parts_begun limit p (at + length (take n input)) (b ∷ [])) g.leads
            ∙ parts_begun-cons limit (Size v) (at + length (take n input)) b [] ∙ parts_begun-nil limit _ _;
      }

  -- digits read from the start are read as after none
  pub from_start : (v n : ℕ) (input : List ℕ) → 0 < n → is_ascii_hexdigit (get_or input 0 0) ≡ true → GoesOn limit (Size 0) (Size v) n input → GoesOn limit Start (Size v) n input
  from_start v zero input some hex g = absurd (omega arith)
  from_start v (suc n) [] some hex g = absurd (omega (arith, g.within))
  from_start v (suc n) (b ∷ xs) some hex g =
      let front = take n xs in
      let zeros : 0 * 16 + digit_value b ≡ digit_value b = omega arith in
      let same : next_place limit Start b ≡ next_place limit (Size 0) b =
      ap (λ t. cond t (sized limit (digit_value b)) Bad) hex ∙ ap (sized limit) (sym zeros) ∙ sym (ap (λ t. cond t (sized limit (0 * 16 + digit_value b)) (after_digits 0 b)) hex) in
      record {
        within = g.within;
        leads = place_after-cons limit Start b front ∙ ap (λ p. place_after limit p front) same ∙ sym (place_after-cons limit (Size 0) b front) ∙ g.leads;
        part = λ at. parts_begun-cons limit Start at b front ∙ ap (λ p. parts_begun limit p (at + 1) front) same ∙ sym (parts_begun-cons limit (Size 0) at b front) ∙ g.part at;
      }

  -- the bytes of a line
  in_line_on : (b : ℕ) (on ends : ChunkedPlace) → is_line_byte b ≡ true → in_line b on ends ≡ on
  in_line_on b on ends = by_test (b == 13) (b == 10)
    where
      by_test : (t u : Bool) → not (t || u) ≡ true → cond t ends (cond u Bad on) ≡ on
      by_test true u e = absurd (cc)
      by_test false true e = absurd (cc)
      by_test false false e = refl

  module _ (place : ChunkedPlace) (keeps : (b : ℕ) → is_line_byte b ≡ true → next_place limit place b ≡ place) (none : (at : ℕ) → begun place place at ≡ []) where
    line_place : (n : ℕ) (xs : List ℕ) → n ≤ length xs → ((k : ℕ) → k < n → is_line_byte (get_or xs k 0) ≡ true) → place_after limit place (take n xs) ≡ place
    line_place zero xs le line = place_after-nil limit place
    line_place (suc n) [] le line = absurd (omega arith)
    line_place (suc n) (b ∷ xs) le line =
        by_byte limit place place b (take n xs) (keeps b (line 0 (omega arith))) ∙ line_place n xs (omega arith) (λ k below. line (suc k) (omega arith))

    line_part : (n : ℕ) (xs : List ℕ) (at : ℕ) → n ≤ length xs → ((k : ℕ) → k < n → is_line_byte (get_or xs k 0) ≡ true) → parts_begun limit place at (take n xs) ≡ []
    line_part zero xs at le line = parts_begun-nil limit place at
    line_part (suc n) [] at le line = absurd (omega arith)
    line_part (suc n) (b ∷ xs) at le line =
        parts_begun-cons limit place at b (take n xs)
        ∙ ap (λ p. begun place p (at + 1) ++ parts_begun limit p (at + 1) (take n xs)) (keeps b (line 0 (omega arith)))
        ∙ ap (λ ps. ps ++ parts_begun limit place (at + 1) (take n xs)) (none (at + 1))
        ∙ line_part n xs (at + 1) (omega arith) (λ k below. line (suc k) (omega arith))

    line_goes_on : (n : ℕ) (xs : List ℕ) → n ≤ length xs → ((k : ℕ) → k < n → is_line_byte (get_or xs k 0) ≡ true) → GoesOn limit place place n xs
    line_goes_on n xs le line = record { within = le; leads = line_place n xs le line; part = λ at. line_part n xs at le line }

  pub extension_goes_on : (size n : ℕ) (xs : List ℕ) → n ≤ length xs → ((k : ℕ) → k < n → is_line_byte (get_or xs k 0) ≡ true) → GoesOn limit (Extension size) (Extension size) n xs
  extension_goes_on size = line_goes_on (Extension size) (λ b line. in_line_on b (Extension size) (SizeLf size) line) (λ at. refl)

  trailer_line : (n : ℕ) (xs : List ℕ) → n ≤ length xs → ((k : ℕ) → k < n → is_line_byte (get_or xs k 0) ≡ true) → GoesOn limit Trailer Trailer n xs
  trailer_line = line_goes_on Trailer (λ b line. in_line_on b Trailer TrailerLf line) (λ at. refl)

  trailer_start : (n : ℕ) (xs : List ℕ) → 0 < n → n ≤ length xs → ((k : ℕ) → k < n → is_line_byte (get_or xs k 0) ≡ true) → GoesOn limit TrailerStart Trailer n xs
  trailer_start zero xs some le line = absurd (omega arith)
  trailer_start (suc n) [] some le line = absurd (omega arith)
  trailer_start (suc n) (b ∷ xs) some le line =
      let first : next_place limit TrailerStart b ≡ Trailer = in_line_on b Trailer EndLf (line 0 (omega arith)) in
      let rest = trailer_line n xs (omega arith) (λ k below. line (suc k) (omega arith)) in
      record {
        within = le;
        leads = by_byte limit TrailerStart Trailer b (take n xs) first ∙ rest.leads;
        part = λ at. parts_begun-cons limit TrailerStart at b (take n xs) ∙ ap (λ p. parts_begun limit p (at + 1) (take n xs)) first ∙ rest.part (at + 1);
      }

  -- from within a trailer line, and from its beginning
  pub trailer_goes_on : (place : ChunkedPlace) (n : ℕ) (xs : List ℕ) → (place ≡ TrailerStart) ⊎ (place ≡ Trailer) → 0 < n → n ≤ length xs → ((k : ℕ) → k < n → is_line_byte (get_or xs k 0) ≡ true) → GoesOn limit place Trailer n xs
  trailer_goes_on place n xs (inl is) some le line = subst (λ (p : ChunkedPlace). GoesOn limit p Trailer n xs) (sym is) (trailer_start n xs some le line)
  trailer_goes_on place n xs (inr is) some le line = subst (λ (p : ChunkedPlace). GoesOn limit p Trailer n xs) (sym is) (trailer_line n xs le line)

  -- data and the CRLF after them
  pub data_ends : (left : ℕ) (input : List ℕ) → 0 < left → left + 2 ≤ length input → take (left + 2) input ≡ take left input ++ 13 ∷ 10 ∷ []
      → IsStretch limit (Data left) input (record { next = Start; len = left + 2; ahead = None })
  data_ends left input some within text =
      let long : length (take left input) ≡ left = length-take-le left input (omega arith) in
      with_crlf (Data left) DataCr Start left None input within text
      (record { within = omega arith; leads = data_all limit (take left input) left some long; part = λ at. data_begins_none limit (take left input) left at (omega (arith, long)) })
      (two DataCr DataLf Start refl refl) (λ at. two_begin DataCr DataLf Start at refl refl refl) (λ left e. absurd (cc)) refl

  -- the line of a chunk with data, which begins with a digit
  line_of_data : (size : ℕ) → 0 < size → after_line size ≡ Data size
  line_of_data size some = grind (arith, nat_tests)

  some_digit : (size n : ℕ) (input : List ℕ) → 0 < size → GoesOn limit (Size 0) (Size size) n input → 0 < n
  some_digit size zero input some g =
      let same : Size 0 ≡ Size size = sym (place_after-nil limit (Size 0)) ∙ g.leads in
      let none : 0 ≡ size = cc in
      absurd (omega (arith, none))
  some_digit size (suc n) input some g = omega arith

  pub data_line_ends : (size n : ℕ) (input : List ℕ) → 0 < size → (0 < n → is_ascii_hexdigit (get_or input 0 0) ≡ true) → n + 2 ≤ length input → take (n + 2) input ≡ take n input ++ 13 ∷ 10 ∷ [] → GoesOn limit (Size 0) (Size size) n input
      → IsStretch limit Start input (record { next = Data size; len = n + 2; ahead = Some size })
  data_line_ends size n input some first within text g =
      let digit = some_digit size n input some g in
      let to_data = line_of_data size some in
      with_crlf Start (Size size) (Data size) n (Some size) input within text (from_start size n input digit (first digit) g) (two (Size size) (SizeLf size) (Data size) refl to_data)
      (λ at. let same : at + 1 + 1 ≡ at + 2 = omega arith in two_begin (Size size) (SizeLf size) (Data size) at refl to_data refl ∙ ap (part_begun (Some size)) same)
      (λ left e. let same : size ≡ left = cc in ap Data same) refl
