-- Texts in brackets.
use Rattle.std.proofs.Common.{◌≡◌, ◌≢◌, ℕ, ◌==◌, ◌-◌, true, false, List, [], ◌∷◌, ◌++◌, length, take, get_or, refl, ap, sym, ◌∙◌, arith, length-append, inl, inr}
use Rattle.std.proofs.Math.Seq.{get_or-append_seam, take-append_seam}
use Rattle.std.specs.List.{slice_index}
use Rattle.std.proofs.lemmas.Bool.Decides.{eqb_tells}
use Rattle.mx_names.specs.Hosts.{unbracketed}

last_before : (x : List ℕ) → length (91 ∷ x ++ 93 ∷ []) - 1 ≡ length (91 ∷ x)
last_before x = grind (arith, length-append)

len_between : (x : List ℕ) → length (91 ∷ x ++ 93 ∷ []) - 2 ≡ length x
len_between x = grind (arith, length-append)

last_of : (x : List ℕ) → slice_index (91 ∷ x ++ 93 ∷ []) (length (91 ∷ x ++ 93 ∷ []) - 1) ≡ 93
last_of x = ap (λ k. slice_index (91 ∷ x ++ 93 ∷ []) k) (last_before x) ∙ get_or-append_seam (91 ∷ x) 93 [] 0

between : (x : List ℕ) → take (length (91 ∷ x ++ 93 ∷ []) - 2) (x ++ 93 ∷ []) ≡ x
between x = ap (λ k. take k (x ++ 93 ∷ [])) (len_between x) ∙ take-append_seam x (93 ∷ [])

unbracketed_between : (x : List ℕ) → unbracketed (91 ∷ x ++ 93 ∷ []) ≡ x
unbracketed_between x =
    let ends : (slice_index (91 ∷ x ++ 93 ∷ []) (length (91 ∷ x ++ 93 ∷ []) - 1) == 93) ≡ true = ap (λ y. y == 93) (last_of x) in
    rw ends (between x)

no_first_bracket : (host : List ℕ) → ((rest : List ℕ) → host ≢ 91 ∷ rest) → unbracketed host ≡ host
no_first_bracket [] none = refl
no_first_bracket (c ∷ rest) none = elim (eqb_tells c 91) as (λ _. unbracketed (c ∷ rest) ≡ c ∷ rest) [
  | inl t ↦ absurd (none rest (ap (λ y. y ∷ rest) t.1))
  | inr f ↦ rw f.0 refl
]

front_and_last : (c : ℕ) (rest : List ℕ) → get_or (c ∷ rest) (length rest) 0 ≡ 93 → c ∷ rest ≡ take (length rest) (c ∷ rest) ++ 93 ∷ []
front_and_last c [] is = ap (λ y. y ∷ []) is
front_and_last c (d ∷ rest) is = ap (λ ys. c ∷ ys) (front_and_last d rest is)

last_index : (c : ℕ) (rest : List ℕ) → length (91 ∷ c ∷ rest) - 1 ≡ length (c ∷ rest)
last_index c rest = omega arith

no_last_bracket : (rest : List ℕ) → ((front : List ℕ) → rest ≢ front ++ 93 ∷ []) → unbracketed (91 ∷ rest) ≡ 91 ∷ rest
no_last_bracket [] none = refl
no_last_bracket (c ∷ rest) none = elim (eqb_tells (get_or (c ∷ rest) (length rest) 0) 93) as (λ _. unbracketed (91 ∷ c ∷ rest) ≡ 91 ∷ c ∷ rest) [
  | inl t ↦ absurd (none (take (length rest) (c ∷ rest)) (front_and_last c rest t.1))
  | inr f ↦
      let ends : (slice_index (91 ∷ c ∷ rest) (length (91 ∷ c ∷ rest) - 1) == 93) ≡ false = ap (λ k. slice_index (91 ∷ c ∷ rest) k == 93) (last_index c rest) ∙ f.0 in
      rw ends refl
]

-- the host is [inner]
pub inner_is : (host rest inner : List ℕ) → host ≡ 91 ∷ rest → rest ≡ inner ++ 93 ∷ [] → inner ≡ unbracketed host
inner_is host rest inner first last = sym (ap unbracketed (first ∙ ap (λ ys. 91 ∷ ys) last) ∙ unbracketed_between inner)

-- the host doesn't begin with [
pub unopened : (host : List ℕ) → ((rest : List ℕ) → host ≢ 91 ∷ rest) → host ≡ unbracketed host
unopened host none = sym (no_first_bracket host none)

-- the host begins with [ and doesn't end with ]
pub unclosed : (host rest : List ℕ) → host ≡ 91 ∷ rest → ((front : List ℕ) → rest ≢ front ++ 93 ∷ []) → host ≡ unbracketed host
unclosed host rest first none = first ∙ sym (no_last_bracket rest none) ∙ ap unbracketed (sym first)
