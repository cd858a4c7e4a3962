-- Laws of any table of causes: the code that comes first is that of the shortest prefix.
use Rattle.std.proofs.Common.{◌≡◌, ℕ, zero, suc, ◌+◌, ◌<◌, ◌≤◌, inl, inr, List, [], ◌∷◌, ◌++◌, length, refl, sym, ap, subst, ◌∙◌, arith, length-append}
use Rattle.std.proofs.lemmas.List.{append-nil}
use Rattle.std.proofs.lemmas.Bool.{cases_lt}
use Rattle.mx_types.specs.declared.code.Code.{Code}
use Rattle.mx_head.specs.Laws.{HasOneCodePerLine, IsShortest, ShortestComesFirst, FirstIsShortest, FirstHasShortest, HasOneFirst}
use Rattle.mx_head.proofs.CodeLemmas.{same_code}
use Rattle.mx_head.proofs.LineLemmas.{front_of}

nothing : (c : List ℕ) → length c ≡ 0 → (s : List ℕ) → s ++ c ≡ s
nothing [] none s = append-nil s
nothing (z ∷ c) none s = absurd (omega arith)

-- prefixes of one text that are as long are the same
same_front : (a b x y : List ℕ) → a ++ x ≡ b ++ y → length a ≡ length b → a ≡ b
same_front a b x y e long =
    let r = front_of a b x y e (omega (arith, long)) in
    let none : length r.0 ≡ 0 = omega (arith, ap length r.1, length-append a r.0, long) in
    sym (r.1 ∙ nothing r.0 none a)

module _ {Cause : Type 0} (code_of : Cause → Code) (line_of : Cause → ℕ) (Meets : List ℕ → Cause → Type 0) where
  pub one_first : HasOneFirst code_of line_of Meets
  one_first input c d f g =
      same_code c d (λ ne. elim (cases_lt (length f.front) (length g.front)) [
        | inl le ↦
            let a = g.first f.front f.after f.cause f.is_prefix f.meets (λ e. ne (sym f.code_is ∙ e)) (omega (arith, le)) in
            let b = f.first g.front g.after g.cause g.is_prefix g.meets (λ e. ne (sym e ∙ g.code_is)) (omega (arith, a.0)) in
            omega (arith, a.1, b.1)
        | inr le ↦
            let b = f.first g.front g.after g.cause g.is_prefix g.meets (λ e. ne (sym e ∙ g.code_is)) (omega (arith, le)) in
            let a = g.first f.front f.after f.cause f.is_prefix f.meets (λ e. ne (sym f.code_is ∙ e)) (omega (arith, b.0)) in
            omega (arith, a.1, b.1)
      ])

  pub shortest_is_first : HasOneCodePerLine code_of line_of → ShortestComesFirst code_of line_of Meets
  shortest_is_first one_code input p cause s = record {
    front = p;
    after = s.after;
    is_prefix = s.is_prefix;
    cause = cause;
    meets = s.meets;
    code_is = refl;
    first = λ q more other at x ne le.
        let same : length q ≡ length p = omega (arith, le, s.shortest q more other at x) in
        let here = same_front q p more s.after (sym at ∙ s.is_prefix) same in
        let up = s.upper other (subst (λ (t : List ℕ). Meets t other) here x) in (
          same,
          (elim (cases_lt (line_of cause) (line_of other)) [
            | inl lower ↦ lower
            | inr upper ↦ absurd (ne (one_code other cause (omega (arith, up, upper))))
          ]),
        );
  }

  pub first_is_shortest : HasOneCodePerLine code_of line_of → FirstIsShortest code_of line_of Meets
  first_is_shortest one_code input p cause code s f =
      one_first input code (code_of cause) f (shortest_is_first one_code input p cause s)

  -- no prefix meets a cause where none can be the shortest
  abbrev MeetsNone : List ℕ → (ℕ → ℕ → Type 0) → Type 0
  MeetsNone input Before =
      (p after : List ℕ) (cause : Cause) → input ≡ p ++ after → Meets p cause → Before (length p) (line_of cause) → ⊥

  no_line : (input : List ℕ) → ((p : List ℕ) (cause : Cause) → IsShortest line_of Meets input p cause → ⊥)
      → (n : ℕ) → MeetsNone input (λ len line. len < n) → (l : ℕ) → MeetsNone input (λ len line. (len ≤ n) × (line < l))
  no_line input none n shorter zero p after cause at x before = omega (arith, before.1)
  no_line input none n shorter (suc l) p after cause at x before = none p cause (record {
    after = after;
    is_prefix = at;
    meets = x;
    shortest = λ q more other e y.
        elim (cases_lt (length q) (length p)) [
          | inl less ↦ absurd (shorter q more other e y (omega (arith, less, before.0)))
          | inr more ↦ omega (arith, more)
        ];
    upper = λ other y.
        elim (cases_lt (line_of other) (line_of cause)) [
          | inl upper ↦ absurd (no_line input none n shorter l p after other at y (before.0, omega (arith, upper, before.1)))
          | inr lower ↦ omega (arith, lower)
        ];
  })

  no_length : (input : List ℕ) → ((p : List ℕ) (cause : Cause) → IsShortest line_of Meets input p cause → ⊥)
      → (n : ℕ) → MeetsNone input (λ len line. len < n)
  no_length input none zero p after cause at x before = omega (arith, before)
  no_length input none (suc n) p after cause at x before =
      no_line input none n (no_length input none n) (line_of cause + 1) p after cause at x (omega (arith, before), omega arith)

  pub first_has_shortest : HasOneCodePerLine code_of line_of → FirstHasShortest code_of line_of Meets
  first_has_shortest one_code input code f none =
      no_length input (λ p cause s. none p cause (s, first_is_shortest one_code input p cause code s f))
      (length f.front + 1) f.front f.after f.cause f.is_prefix f.meets (omega arith)
