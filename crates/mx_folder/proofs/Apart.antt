-- Names that differ.
use Rattle.std.proofs.Common.{◌≡◌, ◌≢◌, ℕ, ◌<◌, ◌≤◌, ◌+◌, ◌^◌, true, ◌&&◌, cond, List, [], ◌∷◌, ◌++◌, length, take, drop, map, get_or, refl, ap, sym, ◌∙◌, arith}
use Rattle.std.specs.Prelude.{decimal, ◌==◌}
use Rattle.std.specs.Str.{bytes_eq}
use Rattle.std.specs.List.{list_all, AllByRecursion}
use Rattle.std.proofs.lemmas.Bool.{and_from, and_parts, cond_both, cond-true, eqb-true, both_ways}
use Rattle.std.proofs.lemmas.Bool.Decides.{nat_tests}
use Rattle.std.proofs.lemmas.List.Folds.{list_all-append}
use Rattle.std.proofs.lemmas.List.Sums.{count_by-le-length, sum_by_push}
use Rattle.std.proofs.lemmas.List.{length-append}
use Rattle.std.proofs.lemmas.Slice.Eq.{bytes_eq-Decides}
use Rattle.std.proofs.lemmas.Fmt.{decimal_injective}
use Rattle.mx_folder.specs.Paths.{path_of, last_segment}
use Rattle.mx_folder.specs.Names.{kept, unhidden, base_name, numbered, count_of, names_from}
use Rattle.mx_folder.specs.Laws.{AreDistinct}
use Rattle.mx_folder.proofs.Bytes.{is_plain, all_kept_plain}

unhidden_plain : (bs : List ℕ) → list_all is_plain bs ≡ true → list_all is_plain (unhidden bs) ≡ true
unhidden_plain [] all = refl
unhidden_plain (b ∷ bs) all =
    let parts = and_parts (is_plain b) (list_all is_plain bs) all in
    let first : is_plain (cond (b == 46) 95 b) ≡ true = grind (arith, nat_tests, parts.0) in
    and_from (is_plain (cond (b == 46) 95 b)) (list_all is_plain bs) first parts.1

base_plain : (url : List ℕ) → list_all is_plain (base_name url) ≡ true
unfolding base_name
base_plain url = unhidden_plain (map kept (take 234 (last_segment (path_of url)))) (all_kept_plain (take 234 (last_segment (path_of url))))

-- no number sign is in a plain text
no_sign : (xs ys : List ℕ) → list_all is_plain xs ≡ true → xs ≡ ys → list_all is_plain ys ≡ true
no_sign xs ys all e = ap (list_all is_plain) (sym e) ∙ all

not_plain : (ys u : List ℕ) → list_all is_plain (ys ++ 35 ∷ u) ≡ true → ⊥
not_plain ys u all =
    let both = and_parts (list_all is_plain ys) (list_all is_plain (35 ∷ u)) (sym (list_all-append is_plain ys (35 ∷ u)) ∙ all) in
    both_ways (is_plain 35 && list_all is_plain u) refl both.1

-- what is before the first number sign, and after it
split : (xs ys u v : List ℕ) → list_all is_plain xs ≡ true → list_all is_plain ys ≡ true
    → xs ++ 35 ∷ u ≡ ys ++ 35 ∷ v → (xs ≡ ys) × (u ≡ v)
split [] [] u v p q e = (refl, ap (λ l. drop 1 l) e)
split [] (y ∷ ys) u v p q e =
    let first : 35 ≡ y = ap (λ l. get_or l 0 0) e in
    let parts = and_parts (is_plain y) (list_all is_plain ys) q in
    absurd (both_ways (is_plain y) (ap is_plain (sym first)) parts.0)
split (x ∷ xs) [] u v p q e =
    let first : x ≡ 35 = ap (λ l. get_or l 0 0) e in
    let parts = and_parts (is_plain x) (list_all is_plain xs) p in
    absurd (both_ways (is_plain x) (ap is_plain first) parts.0)
split (x ∷ xs) (y ∷ ys) u v p q e =
    let first : x ≡ y = ap (λ l. get_or l 0 0) e in
    let rest = split xs ys u v (and_parts (is_plain x) (list_all is_plain xs) p).1 (and_parts (is_plain y) (list_all is_plain ys) q).1 (ap (λ l. drop 1 l) e) in
    (ap (λ z. z ∷ xs) first ∙ ap (λ zs. y ∷ zs) rest.0, rest.1)

-- a numbered name determines its base and its number
pub numbered_tells : (a b : List ℕ) (m n : ℕ) → m < 2 ^ 64 → n < 2 ^ 64 → list_all is_plain a ≡ true → list_all is_plain b ≡ true
    → numbered a m ≡ numbered b n → (a ≡ b) × (m ≡ n)
numbered_tells a b m n small low p q =
    cond_both (m == 0) a (a ++ 35 ∷ decimal m) (λ x. x ≡ numbered b n → (a ≡ b) × (m ≡ n))
    (λ zero_m. cond_both (n == 0) b (b ++ 35 ∷ decimal n) (λ y. a ≡ y → (a ≡ b) × (m ≡ n))
    (λ zero_n e. (e, eqb-true m 0 zero_m ∙ sym (eqb-true n 0 zero_n)))
    (λ more_n e. absurd (not_plain b (decimal n) (no_sign a (b ++ 35 ∷ decimal n) p e))))
    (λ more_m. cond_both (n == 0) b (b ++ 35 ∷ decimal n) (λ y. a ++ 35 ∷ decimal m ≡ y → (a ≡ b) × (m ≡ n))
    (λ zero_n e. absurd (not_plain a (decimal m) (no_sign b (a ++ 35 ∷ decimal m) q (sym e))))
    (λ more_n e. let parts = split a b (decimal m) (decimal n) p q e in (parts.0, decimal_injective m n small low parts.1)))

-- one more base counts one, or none
pub count_more : (bases : List (List ℕ)) (next base : List ℕ) → count_of (bases ++ next ∷ []) base ≡ count_of bases base + cond (bytes_eq next base) 1 0
count_more bases next base = sum_by_push (λ other. cond (bytes_eq other base) 1 0) bases next

at_most_all : (bases : List (List ℕ)) (base : List ℕ) → count_of bases base ≤ length bases
at_most_all bases base = count_by-le-length (λ other. bytes_eq other base) bases

-- a number that was counted already is given to no later URL of that base
apart : (base : List ℕ) (k : ℕ) (earlier : List (List ℕ)) (urls : List (List ℕ)) → list_all is_plain base ≡ true → length earlier + length urls < 2 ^ 64
    → k < count_of earlier base → AllByRecursion (λ other. numbered base k ≢ other) (names_from earlier urls)
apart base k earlier [] plain few counted = tt
apart base k earlier (url ∷ urls) plain few counted =
    let next = base_name url in
    let n = count_of earlier next in
    let more : earlier ++ next ∷ [] ≡ earlier ++ next ∷ [] = refl in
    let k_small : k < 2 ^ 64 = omega (arith, at_most_all earlier base) in
    let n_small : n < 2 ^ 64 = omega (arith, at_most_all earlier next) in (
      λ e.
          let parts = numbered_tells base next k n k_small n_small plain (base_plain url) e in
          let same : count_of earlier base ≡ n = ap (count_of earlier) parts.0 in
          omega (arith, same, parts.1, counted),
      apart base k (earlier ++ next ∷ []) urls plain (omega (arith, length-append earlier (next ∷ []))) (omega (arith, count_more earlier next base)),
    )

distinct_from : (earlier urls : List (List ℕ)) → length earlier + length urls < 2 ^ 64 → AreDistinct (names_from earlier urls)
distinct_from earlier [] few = tt
distinct_from earlier (url ∷ urls) few =
    let next = base_name url in
    let same : bytes_eq next next ≡ true = (bytes_eq-Decides next next).1 refl in
    let one : ◌≡◌ {A = ℕ} (cond (bytes_eq next next) 1 0) 1 = cond-true {A = ℕ} (bytes_eq next next) 1 0 same in
    let fewer : length (earlier ++ next ∷ []) + length urls < 2 ^ 64 = omega (arith, length-append earlier (next ∷ [])) in
    (apart next (count_of earlier next) (earlier ++ next ∷ []) urls (base_plain url) fewer (omega (arith, count_more earlier next next, one)), distinct_from (earlier ++ next ∷ []) urls fewer)

pub distinct : (urls : List (List ℕ)) → length urls < 2 ^ 64 → AreDistinct (names_from [] urls)
distinct urls few = distinct_from [] urls (omega arith)
