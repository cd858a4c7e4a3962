-- Fields before a byte that they don't have.
use Rattle.std.proofs.Common.{◌≡◌, ℕ, zero, suc, ◌<◌, ◌≤◌, ◌^◌, Bool, true, false, ◌&&◌, List, [], ◌∷◌, ◌++◌, length, drop, get_or, refl, sym, ap, ◌∙◌, subst, arith, append_assoc, inl, inr, ◌⊎◌}
use Rattle.std.specs.Prelude.{decimal, Some}
use Rattle.std.specs.List.{AllByRecursion}
use Rattle.std.proofs.lemmas.List.{append_cancel_left}
use Rattle.std.proofs.lemmas.List.Elements.{recursion_from_All, All-from_get_or}
use Rattle.std.proofs.lemmas.Fmt.{decimal_is_IsNumeral, decimal_injective}
use Rattle.std.proofs.lemmas.Str.Parse.{digit_at}
use Rattle.std.proofs.lemmas.Bool.{and_parts, cases_eq, cases_lt}
use Rattle.json.specs.Text.{content, plain}
use Rattle.json.specs.Print.{escape, quoted}
use Rattle.json.proofs.Printed.Strings.{content-escape}
use Rattle.percent_encoding.specs.AsciiSet.{should_percent_encode}
use Rattle.percent_encoding.proofs.PercentLemmas.{All-percent_encode, IsEscapeByte}
use Rattle.mx_save_rules.specs.declared.end.Verdict.{Verdict}
use Rattle.mx_save_rules.specs.declared.end.Verdict.TheVariants as verdict
use Rattle.mx_save_rules.specs.Words.{verdict_word}
use Rattle.mx_save_rules.specs.Texts.{hidden, shown}

-- each byte is above c
abbrev pub IsAbove : ℕ → List ℕ → Type 0
IsAbove c text = AllByRecursion (λ b. c < b) text

pub above_less : (c d : ℕ) (text : List ℕ) → c ≤ d → IsAbove d text → IsAbove c text
above_less c d [] less all = tt
above_less c d (b ∷ text) less all = (omega (arith, less, all.0), above_less c d text less all.1)

pub above_append : (c : ℕ) (xs ys : List ℕ) → IsAbove c xs → IsAbove c ys → IsAbove c (xs ++ ys)
above_append c [] ys all more = more
above_append c (x ∷ xs) ys all more = (all.0, above_append c xs ys all.1 more)

-- what is before the first c, and after it
pub split : (c : ℕ) (xs ys u v : List ℕ) → IsAbove c xs → IsAbove c ys → xs ++ c ∷ u ≡ ys ++ c ∷ v → (xs ≡ ys) × (u ≡ v)
split c [] [] u v p q e = (refl, ap (λ l. drop 1 l) e)
split c [] (y ∷ ys) u v p q e = let same : c ≡ y = ap (λ l. get_or l 0 0) e in absurd (omega (arith, same, q.0))
split c (x ∷ xs) [] u v p q e = let same : x ≡ c = ap (λ l. get_or l 0 0) e in absurd (omega (arith, same, p.0))
split c (x ∷ xs) (y ∷ ys) u v p q e =
    let first : x ≡ y = ap (λ l. get_or l 0 0) e in
    let rest = split c xs ys u v p.1 q.1 (ap (λ l. drop 1 l) e) in
    (ap (λ z. z ∷ xs) first ∙ ap (λ zs. y ∷ zs) rest.0, rest.1)

pub digits_above : (n : ℕ) → n < 2 ^ 64 → IsAbove 47 (decimal n)
digits_above n fits =
    recursion_from_All (λ b. 47 < b) (decimal n) (All-from_get_or (λ b. 47 < b) (decimal n) 0
    (λ i within. let digit = digit_at (decimal n) i (decimal_is_IsNumeral n fits).0.1 within in omega (arith, digit.0)))

-- a number ends at a byte below the digits
pub number_ends : (c m n : ℕ) (u v : List ℕ) → c < 48 → m < 2 ^ 64 → n < 2 ^ 64
    → decimal m ++ c ∷ u ≡ decimal n ++ c ∷ v → (m ≡ n) × (u ≡ v)
number_ends c m n u v low mf nf e =
    let less : c ≤ 47 = omega (arith, low) in
    let parts = split c (decimal m) (decimal n) u v (above_less c 47 (decimal m) less (digits_above m mf)) (above_less c 47 (decimal n) less (digits_above n nf)) e in
    (decimal_injective m n mf nf parts.0, parts.1)

-- a test of each number below one
unfoldable pub upto : (ℕ → Bool) → ℕ → Bool
upto test zero = true
upto test (suc n) = test n && upto test n

pub upto_sound : (test : ℕ → Bool) (n : ℕ) → upto test n ≡ true → (k : ℕ) → k < n → test k ≡ true
unfolding upto
upto_sound test zero all k less = absurd (omega arith)
upto_sound test (suc n) all k less =
    let parts = and_parts (test n) (upto test n) all in
    elim (cases_eq k n) as (λ _. test k ≡ true) [
      | inl same ↦ subst (λ i. test i ≡ true) (sym same) parts.0
      | inr other ↦ upto_sound test n parts.1 k (omega (arith, other, less))
    ]

low_hidden : upto (should_percent_encode hidden) 33 ≡ true
unfolding upto should_percent_encode
low_hidden = refl

kept_above : (b : ℕ) → should_percent_encode hidden b ≡ false → 32 < b
kept_above b kept = go (cases_lt b 33) where
  go : (b < 33) ⊎ (33 ≤ b) → 32 < b
  go (inr more) = omega (arith, more)
  go (inl less) =
      let is = upto_sound (should_percent_encode hidden) 33 low_hidden b less in
      let bad : false ≡ true = sym kept ∙ is in absurd (cc)

escape_above : (b : ℕ) → IsEscapeByte b → 32 < b
escape_above b h = grind arith

-- what is shown has no space and no control
pub shown_above : (bytes : List ℕ) → IsAbove 32 (shown bytes)
shown_above bytes = recursion_from_All (λ b. 32 < b) (shown bytes) (All-percent_encode (λ b. 32 < b) hidden bytes kept_above escape_above)

pub word_above : (v : Verdict) → IsAbove 34 (verdict_word v)
word_above verdict.Saved = (omega arith, (omega arith, (omega arith, (omega arith, (omega arith, tt)))))
word_above verdict.Done = (omega arith, (omega arith, (omega arith, (omega arith, tt))))
word_above verdict.Skipped = (omega arith, (omega arith, (omega arith, (omega arith, (omega arith, (omega arith, (omega arith, tt)))))))
word_above verdict.Failed = (omega arith, (omega arith, (omega arith, (omega arith, (omega arith, (omega arith, tt))))))

other_length : {P : Type 0} (xs ys : List ℕ) (m n : ℕ) → length xs ≡ m → length ys ≡ n → m < n ⊎ n < m → xs ≡ ys → P
other_length xs ys m n p q (inl less) e = absurd (omega (arith, p, q, less, ap length e))
other_length xs ys m n p q (inr less) e = absurd (omega (arith, p, q, less, ap length e))

-- the words differ
pub verdict_same : (v w : Verdict) → verdict_word v ≡ verdict_word w → v ≡ w
verdict_same verdict.Saved verdict.Saved e = refl
verdict_same verdict.Saved verdict.Done e = other_length _ _ 5 4 refl refl (inr (omega arith)) e
verdict_same verdict.Saved verdict.Skipped e = other_length _ _ 5 7 refl refl (inl (omega arith)) e
verdict_same verdict.Saved verdict.Failed e = other_length _ _ 5 6 refl refl (inl (omega arith)) e
verdict_same verdict.Done verdict.Saved e = other_length _ _ 4 5 refl refl (inl (omega arith)) e
verdict_same verdict.Done verdict.Done e = refl
verdict_same verdict.Done verdict.Skipped e = other_length _ _ 4 7 refl refl (inl (omega arith)) e
verdict_same verdict.Done verdict.Failed e = other_length _ _ 4 6 refl refl (inl (omega arith)) e
verdict_same verdict.Skipped verdict.Saved e = other_length _ _ 7 5 refl refl (inr (omega arith)) e
verdict_same verdict.Skipped verdict.Done e = other_length _ _ 7 4 refl refl (inr (omega arith)) e
verdict_same verdict.Skipped verdict.Skipped e = refl
verdict_same verdict.Skipped verdict.Failed e = other_length _ _ 7 6 refl refl (inr (omega arith)) e
verdict_same verdict.Failed verdict.Saved e = other_length _ _ 6 5 refl refl (inr (omega arith)) e
verdict_same verdict.Failed verdict.Done e = other_length _ _ 6 4 refl refl (inr (omega arith)) e
verdict_same verdict.Failed verdict.Skipped e = other_length _ _ 6 7 refl refl (inl (omega arith)) e
verdict_same verdict.Failed verdict.Failed e = refl

-- a text in JSON ends at its quote
pub quoted_ends : (s t u v : List ℕ) → quoted s ++ u ≡ quoted t ++ v → (s ≡ t) × (u ≡ v)
quoted_ends s t u v e =
    let inside : escape s ++ 34 ∷ u ≡ escape t ++ 34 ∷ v =
    sym (append_assoc (escape s) (34 ∷ []) u) ∙ ap (λ l. drop 1 l) e ∙ append_assoc (escape t) (34 ∷ []) v in
    let read : Some s ≡ Some t = sym (content-escape s u) ∙ ap (content plain) inside ∙ content-escape t v in
    let same : s ≡ t = cc in
    let rest : escape t ++ 34 ∷ u ≡ escape t ++ 34 ∷ v = ap (λ z. escape z ++ 34 ∷ u) (sym same) ∙ inside in
    (same, ap (λ l. drop 1 l) (append_cancel_left (escape t) (34 ∷ u) (34 ∷ v) rest))
