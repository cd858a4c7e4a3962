-- Names of parts.
use Rattle.std.proofs.Common.{◌≡◌, ℕ, ◌<◌, List, [], ◌∷◌, ◌++◌, drop, get_or, refl, ap, sym, subst, ◌∙◌, arith}
use Rattle.std.specs.Prelude.{codes, decimal}
use Rattle.std.specs.Char.{digit_value}
use Rattle.std.specs.Str.Parse.{AllDigits}
use Rattle.std.proofs.lemmas.List.{append_cancel_left, append_cancel_right}
use Rattle.std.proofs.lemmas.Fmt.{decimal_injective, decimal_is_IsNumeral}
use Rattle.mx_folder.specs.Names.{part_of}
use Rattle.mx_save.specs.Laws.{PartsAreDistinct}

-- a digit is no `-`
no_dash : (c : ℕ) → digit_value c < 10 → 45 ≡ c → ⊥
no_dash c is e = let bad : digit_value 45 < 10 = subst (λ n. digit_value n < 10) (sym e) is in omega (arith, bad)

-- what is before the first `-`, and after it
split : (xs ys u v : List ℕ) → AllDigits 10 xs → AllDigits 10 ys → xs ++ 45 ∷ u ≡ ys ++ 45 ∷ v → (xs ≡ ys) × (u ≡ v)
split [] [] u v p q e = (refl, ap (λ l. drop 1 l) e)
split [] (y ∷ ys) u v p q e = absurd (no_dash y q.0 (ap (λ l. get_or l 0 0) e))
split (x ∷ xs) [] u v p q e = absurd (no_dash x p.0 (sym (ap (λ l. get_or l 0 0) e)))
split (x ∷ xs) (y ∷ ys) u v p q e =
    let first : x ≡ y = ap (λ l. get_or l 0 0) e in
    let rest = split xs ys u v p.1 q.1 (ap (λ l. drop 1 l) e) in
    (ap (λ z. z ∷ xs) first ∙ ap (λ zs. y ∷ zs) rest.0, rest.1)

pub distinct : PartsAreDistinct
unfolding part_of
distinct process other number next p q n m e =
    let end = codes ".part" in
    let names : decimal process ++ 45 ∷ (decimal number ++ end) ≡ decimal other ++ 45 ∷ (decimal next ++ end) =
    append_cancel_left (codes ".mxfetch-") (decimal process ++ 45 ∷ (decimal number ++ end)) (decimal other ++ 45 ∷ (decimal next ++ end)) e in
    let both = split (decimal process) (decimal other) (decimal number ++ end) (decimal next ++ end) (decimal_is_IsNumeral process p).0.1 (decimal_is_IsNumeral other q).0.1 names in
    (decimal_injective process other p q both.0, decimal_injective number next n m (append_cancel_right (decimal number) (decimal next) end both.1))
