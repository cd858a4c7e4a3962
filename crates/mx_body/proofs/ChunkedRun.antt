-- How the reader of a chunked body passes several bytes.
use Rattle.std.proofs.Common.{◌≡◌, ℕ, suc, ◌+◌, ◌-◌, ◌<◌, ◌≤◌, true, List, [], ◌∷◌, ◌++◌, length, get_or, take, refl, sym, ap, ◌∙◌, arith}
use Rattle.std.proofs.lemmas.List.Sums.{fold-append}
use Rattle.std.proofs.lemmas.List.{append_assoc, append-nil}
use Rattle.std.proofs.lemmas.Bool.Decides.{nat_tests}
use Rattle.mx_body.specs.declared.chunked.place.ChunkedPlace.{ChunkedPlace}
use Rattle.mx_body.specs.declared.chunked.place.ChunkedPlace.TheVariants.{Start, Size, Extension, SizeLf, Data, DataCr, DataLf, TrailerStart, Trailer, TrailerLf, EndLf, Done, Bad, TooLarge}
use Rattle.mx_body.specs.ChunkedPlace.{next_place, place_after, is_settled, begun, parts_begun}

module _ (limit : ℕ) where
  pub place_after-nil : (place : ChunkedPlace) → place_after limit place [] ≡ place
  unfolding place_after
  place_after-nil place = refl

  pub place_after-cons : (place : ChunkedPlace) (b : ℕ) (bytes : List ℕ) → place_after limit place (b ∷ bytes) ≡ place_after limit (next_place limit place b) bytes
  unfolding place_after
  place_after-cons place b bytes = refl

  pub place_after-append : (place : ChunkedPlace) (xs ys : List ℕ) → place_after limit place (xs ++ ys) ≡ place_after limit (place_after limit place xs) ys
  unfolding place_after
  place_after-append place xs ys = fold-append (next_place limit) place xs ys

  -- a byte, with the place that it leads to
  pub by_byte : (place next : ChunkedPlace) (b : ℕ) (bytes : List ℕ) → next_place limit place b ≡ next → place_after limit place (b ∷ bytes) ≡ place_after limit next bytes
  by_byte place next b bytes e = place_after-cons place b bytes ∙ ap (λ p. place_after limit p bytes) e

  pub data_more : (left b : ℕ) → 1 < left → next_place limit (Data left) b ≡ Data (left - 1)
  data_more left b more = grind (arith, nat_tests)

  data_last : (left b : ℕ) → left ≡ 1 → next_place limit (Data left) b ≡ DataCr
  data_last left b last = grind (arith, nat_tests)

  -- data that doesn't reach the end of its chunk
  pub data_part : (xs : List ℕ) (left : ℕ) → length xs < left → place_after limit (Data left) xs ≡ Data (left - length xs)
  data_part [] left fits =
      let same : left ≡ left - 0 = omega arith in
      place_after-nil (Data left) ∙ ap Data same
  data_part (b ∷ xs) left fits =
      let same : left - 1 - length xs ≡ left - suc (length xs) = omega arith in
      by_byte _ _ b xs (data_more left b (omega arith)) ∙ data_part xs (left - 1) (omega arith) ∙ ap Data same

  -- data up to the end of its chunk
  pub data_all : (xs : List ℕ) (left : ℕ) → 0 < left → length xs ≡ left → place_after limit (Data left) xs ≡ DataCr
  data_all [] left some all = absurd (omega arith)
  data_all (b ∷ []) left some all = by_byte _ _ b [] (data_last left b (omega arith)) ∙ place_after-nil DataCr
  data_all (b ∷ d ∷ xs) left some all =
      by_byte _ _ b (d ∷ xs) (data_more left b (omega arith)) ∙ data_all (d ∷ xs) (left - 1) (omega arith) (omega arith)

  -- where bad bytes and a size over the limit lead, whatever follows
  pub bad_stays : (xs : List ℕ) → place_after limit Bad xs ≡ Bad
  bad_stays [] = place_after-nil Bad
  bad_stays (b ∷ xs) = by_byte _ _ b xs refl ∙ bad_stays xs

  pub too_large_stays : (xs : List ℕ) → place_after limit TooLarge xs ≡ TooLarge
  too_large_stays [] = place_after-nil TooLarge
  too_large_stays (b ∷ xs) = by_byte _ _ b xs refl ∙ too_large_stays xs

  -- nothing follows a body
  pub done_ends : (b : ℕ) (xs : List ℕ) → place_after limit Done (b ∷ xs) ≡ Bad
  done_ends b xs = by_byte _ _ b xs refl ∙ bad_stays xs

  -- what is settled stays so
  pub settled_stays : (place : ChunkedPlace) (xs : List ℕ) → is_settled place ≡ true → is_settled (place_after limit place xs) ≡ true
  settled_stays place [] is = ap is_settled (place_after-nil place) ∙ is
  settled_stays Done (b ∷ xs) is = ap is_settled (done_ends b xs)
  settled_stays Bad (b ∷ xs) is = ap is_settled (bad_stays (b ∷ xs))
  settled_stays TooLarge (b ∷ xs) is = ap is_settled (too_large_stays (b ∷ xs))
  settled_stays Start (b ∷ xs) is = cc
  settled_stays (Size n) (b ∷ xs) is = cc
  settled_stays (Extension n) (b ∷ xs) is = cc
  settled_stays (SizeLf n) (b ∷ xs) is = cc
  settled_stays (Data n) (b ∷ xs) is = cc
  settled_stays DataCr (b ∷ xs) is = cc
  settled_stays DataLf (b ∷ xs) is = cc
  settled_stays TrailerStart (b ∷ xs) is = cc
  settled_stays Trailer (b ∷ xs) is = cc
  settled_stays TrailerLf (b ∷ xs) is = cc
  settled_stays EndLf (b ∷ xs) is = cc

  -- one byte at the front of a list
  pub first_byte : (place : ChunkedPlace) (xs : List ℕ) → 0 < length xs → next_place limit place (get_or xs 0 0) ≡ place_after limit place (take 1 xs)
  unfolding place_after
  first_byte place [] some = absurd (omega arith)
  first_byte place (b ∷ xs) some = refl

  -- the parts that no byte, a byte and what follows it, and two texts begin
  pub parts_begun-nil : (place : ChunkedPlace) (at : ℕ) → parts_begun limit place at [] ≡ []
  unfolding parts_begun
  parts_begun-nil place at = refl

  pub parts_begun-cons : (place : ChunkedPlace) (at b : ℕ) (bytes : List ℕ)
      → parts_begun limit place at (b ∷ bytes) ≡ begun place (next_place limit place b) (at + 1) ++ parts_begun limit (next_place limit place b) (at + 1) bytes
  unfolding parts_begun
  parts_begun-cons place at b bytes = refl

  pub parts_begun-append : (place : ChunkedPlace) (at : ℕ) (xs ys : List ℕ)
      → parts_begun limit place at (xs ++ ys) ≡ parts_begun limit place at xs ++ parts_begun limit (place_after limit place xs) (at + length xs) ys
  unfolding parts_begun place_after
  parts_begun-append place at [] ys =
      let same : at ≡ at + 0 = omega arith in
      ap (λ n. parts_begun limit place n ys) same
  parts_begun-append place at (b ∷ xs) ys =
      let next = next_place limit place b in
      let same : at + 1 + length xs ≡ at + suc (length xs) = omega arith in
      ap (λ ps. begun place next (at + 1) ++ ps) (parts_begun-append next (at + 1) xs ys ∙ ap (λ n. parts_begun limit next (at + 1) xs ++ parts_begun limit (place_after limit next xs) n ys) same)
      ∙ sym (append_assoc (begun place next (at + 1)) _ _)

  -- data begins no part
  pub data_begins_none : (xs : List ℕ) (left at : ℕ) → length xs ≤ left → parts_begun limit (Data left) at xs ≡ []
  data_begins_none [] left at fits = parts_begun-nil (Data left) at
  data_begins_none (b ∷ []) left at fits = parts_begun-cons (Data left) at b [] ∙ parts_begun-nil _ (at + 1)
  data_begins_none (b ∷ d ∷ xs) left at fits =
      parts_begun-cons (Data left) at b (d ∷ xs)
      ∙ ap (λ p. parts_begun limit p (at + 1) (d ∷ xs)) (data_more left b (omega arith))
      ∙ data_begins_none (d ∷ xs) (left - 1) (at + 1) (omega arith)

  -- what the first byte begins
  pub first_begins : (place : ChunkedPlace) (at : ℕ) (xs : List ℕ) → 0 < length xs → parts_begun limit place at (take 1 xs) ≡ begun place (next_place limit place (get_or xs 0 0)) (at + 1)
  first_begins place at [] some = absurd (omega arith)
  first_begins place at (b ∷ xs) some =
      let next = next_place limit place b in
      parts_begun-cons place at b [] ∙ ap (λ ps. begun place next (at + 1) ++ ps) (parts_begun-nil next (at + 1)) ∙ append-nil (begun place next (at + 1))
