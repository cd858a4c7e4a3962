-- Parts that are out, once one more is, or one has come back.
use Rattle.std.proofs.Common.{◌≡◌, ◌≢◌, ◌∙◌, refl, sym, ℕ, ◌<◌, suc, zero, List, [], ◌∷◌, Bool, true, false, length, get_or, arith}
use Rattle.std.specs.Prelude.{◌==◌, if◌then◌else◌}
use Rattle.std.specs.List.{Contains}
use Rattle.std.proofs.lemmas.Bool.{eqb-true}
use Rattle.mx_save.specs.Made.{without}

pub one_more : (n other : ℕ) (out : List ℕ) → Contains out other → Contains (n ∷ out) other
one_more n other out h = (suc h.0, omega (arith, h.1), h.2)

by_test : (n other x : ℕ) (out : List ℕ) → other ≢ n → (Contains out other → Contains (without n out) other) → (b : Bool) → (x == n) ≡ b → (k : ℕ)
    → k < length (x ∷ out) → get_or (x ∷ out) k other ≡ other → Contains (if b then out else x ∷ without n out) other
by_test n other x out apart more true e zero within is = absurd (apart (sym is ∙ eqb-true x n e))
by_test n other x out apart more true e (suc k) within is = (k, omega (arith, within), is)
by_test n other x out apart more false e zero within is = (0, omega arith, is)
by_test n other x out apart more false e (suc k) within is = let h = more (k, omega (arith, within), is) in (suc h.0, omega (arith, h.1), h.2)

pub still_out : (n other : ℕ) (out : List ℕ) → other ≢ n → Contains out other → Contains (without n out) other
still_out n other [] apart h = absurd (omega (arith, h.1))
still_out n other (x ∷ out) apart h = by_test n other x out apart (still_out n other out apart) (x == n) refl h.0 h.1 h.2
