-- Bytes that are copied piece by piece.
use Rattle.std.proofs.Common.{◌≡◌, ℕ, ◌+◌, ◌-◌, ◌≤◌, ◌∙◌, List, ◌++◌, suc, zero, ap, append_assoc, sym, refl, arith, drop, length, take}
use Rattle.std.proofs.lemmas.List.{drop-drop, drop-take, take-take, take-append-le, drop-append-le, take-append-drop, length-drop}
use Rattle.std.proofs.Math.Seq.{drop-append-add}

take_further : (a n : ℕ) (xs : List ℕ) → take a xs ++ take n (drop a xs) ≡ take (a + n) xs
take_further a n xs =
    let front : take a (take (a + n) xs) ≡ take a xs = take-take a (a + n) xs (omega arith) in
    rw (← front, ← drop-take a n xs) (take-append-drop a (take (a + n) xs))

-- the next bytes of the body are those of the piece
next_of : (piece rest : List ℕ) (skip n : ℕ) → n ≤ length piece - skip → take n (drop skip (piece ++ rest)) ≡ take n (drop skip piece)
next_of piece rest skip zero few = refl
next_of piece rest skip (suc n) few =
    let within : skip ≤ length piece = omega (arith, few) in
    let enough : suc n ≤ length (drop skip piece) = omega (arith, few, length-drop skip piece) in
    ap (take (suc n)) (drop-append-le skip piece rest within) ∙ take-append-le (suc n) (drop skip piece) rest enough

-- one more piece behind what was copied: so many bytes of it, from a place of it on
pub goes_on : (body front piece rest room : List ℕ) (from done skip n : ℕ) → body ≡ front ++ (piece ++ rest) → from + done ≡ length front + skip → n ≤ length piece - skip
    → take done (drop from body) ++ (take n (drop skip piece) ++ drop n (drop done room)) ≡ take (done + n) (drop from body) ++ drop (done + n) room
goes_on body front piece rest room from done skip n is at few =
    let there : drop done (drop from body) ≡ drop skip (piece ++ rest) = drop-drop done from body ∙ ap (λ k. drop k body) at ∙ ap (drop (length front + skip)) is ∙ drop-append-add front (piece ++ rest) skip in
    let same : take n (drop skip piece) ≡ take n (drop done (drop from body)) = sym (ap (take n) there ∙ next_of piece rest skip n few) in
    rw (same, drop-drop n done room, ← take_further done n (drop from body)) (sym (append_assoc (take done (drop from body)) (take n (drop done (drop from body))) (drop (done + n) room)))
