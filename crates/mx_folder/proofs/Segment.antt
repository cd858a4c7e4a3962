-- The last segment of a path, a byte further.
use Rattle.std.proofs.Common.{◌≡◌, ℕ, ◌<◌, ◌≤◌, ◌+◌, Bool, true, false, not, List, [], ◌∷◌, ◌++◌, length, take, drop, get_or, ap, sym, ◌∙◌, arith}
use Rattle.std.specs.Prelude.{◌==◌, reverse, take_while}
use Rattle.std.proofs.lemmas.Bool.{cond-true, cond-false}
use Rattle.std.proofs.lemmas.List.{reverse-append, take_more, drop_all, drop-append-le, length-take-le}
use Rattle.std.proofs.lemmas.List.Sums.{take_while-cons}
use Rattle.mx_folder.specs.Paths.{last_segment}

read_back : (xs : List ℕ) (x : ℕ) → reverse (xs ++ x ∷ []) ≡ x ∷ reverse xs
read_back xs x = reverse-append xs (x ∷ [])

in_segment : ℕ → Bool
in_segment b = not (b == 47)

-- one more byte, which is no slash
longer : (xs : List ℕ) (x : ℕ) → not (x == 47) ≡ true → last_segment (xs ++ x ∷ []) ≡ last_segment xs ++ x ∷ []
longer xs x h =
    let w = take_while (λ b. not (b == 47)) (reverse xs) in
    ap (λ l. reverse (take_while (λ b. not (b == 47)) l)) (read_back xs x)
    ∙ ap reverse (take_while-cons (λ b. not (b == 47)) x (reverse xs) ∙ cond-true (not (x == 47)) (x ∷ w) [] h)
    ∙ reverse-append (x ∷ []) w

-- a slash
begun : (xs : List ℕ) (x : ℕ) → not (x == 47) ≡ false → last_segment (xs ++ x ∷ []) ≡ []
begun xs x h =
    let w = take_while (λ b. not (b == 47)) (reverse xs) in
    ap (λ l. reverse (take_while (λ b. not (b == 47)) l)) (read_back xs x)
    ∙ ap reverse (take_while-cons (λ b. not (b == 47)) x (reverse xs) ∙ cond-false (not (x == 47)) (x ∷ w) [] h)

pub segment_longer : (path : List ℕ) (start i x : ℕ) → i < length path → x ≡ get_or path i 0 → not (x == 47) ≡ true → start ≤ i
    → drop start (take i path) ≡ last_segment (take i path)
    → drop start (take (i + 1) path) ≡ last_segment (take (i + 1) path)
segment_longer path start i x small at h low so_far =
    let more : take (i + 1) path ≡ take i path ++ x ∷ [] = take_more path i 0 small ∙ ap (λ y. take i path ++ y ∷ []) (sym at) in
    let long : length (take i path) ≡ i = length-take-le i path (omega arith) in
    ap (drop start) more ∙ drop-append-le start (take i path) (x ∷ []) (omega arith) ∙ ap (λ l. l ++ x ∷ []) so_far
    ∙ sym (ap last_segment more ∙ longer (take i path) x h)

pub segment_begun : (path : List ℕ) (i x : ℕ) → i < length path → x ≡ get_or path i 0 → not (x == 47) ≡ false
    → drop (i + 1) (take (i + 1) path) ≡ last_segment (take (i + 1) path)
segment_begun path i x small at h =
    let more : take (i + 1) path ≡ take i path ++ x ∷ [] = take_more path i 0 small ∙ ap (λ y. take i path ++ y ∷ []) (sym at) in
    let long : length (take (i + 1) path) ≡ i + 1 = length-take-le (i + 1) path (omega arith) in
    drop_all (i + 1) (take (i + 1) path) (omega arith) ∙ sym (ap last_segment more ∙ begun (take i path) x h)
