-- The hops of an outcome, by their places.
use Rattle.std.proofs.Common.{◌≡◌, ◌≢◌, ℕ, zero, suc, ◌≤◌, Bool, true, false, List, [], ◌∷◌, ◌++◌, length, Option, Some, None, refl, sym, ap, ◌∙◌, subst, arith}
use Rattle.std.specs.Prelude.{slice_get, option_map, nat_lt, ◌&&◌, if◌then◌else◌}
use Rattle.std.proofs.lemmas.Bool.Decides.{nat_tests}
use Rattle.std.proofs.lemmas.Option.{slice_get_past}
use Rattle.mx_exchange.specs.Exchanges.{HopValue}

-- the last of them
pub at_last : {A : Type 0} (xs : List A) (x : A) (i : ℕ) → i ≡ length xs → slice_get (xs ++ x ∷ []) i ≡ Some x
at_last [] x zero e = refl
at_last [] x (suc i) e = absurd (omega arith)
at_last (y ∷ xs) x zero e = absurd (omega arith)
at_last (y ∷ xs) x (suc i) e = at_last xs x i (omega arith)

-- and the others
pub before_last : {A : Type 0} (xs : List A) (x : A) (i : ℕ) → i ≢ length xs → slice_get (xs ++ x ∷ []) i ≡ slice_get xs i
before_last [] x zero n = absurd (n refl)
before_last [] x (suc i) n = refl
before_last (y ∷ xs) x zero n = refl
before_last (y ∷ xs) x (suc i) n = before_last xs x i (λ e. n (omega arith))

not_less : (i n : ℕ) → i ≡ n → nat_lt i n ≡ false
not_less i n e = grind (arith, nat_tests)

past : (i n : ℕ) → nat_lt i n ≡ false → n ≤ i
past i n e = grind (arith, nat_tests)

-- the bytes of the last hop
pub wire_last : (alone : Bool) (xs : List HopValue) (x : HopValue) (i : ℕ) → i ≡ length xs
    → Some x.wire ≡ (if alone && nat_lt i (length xs) then None else option_map (λ (h : HopValue). h.wire) (slice_get (xs ++ x ∷ []) i))
wire_last false xs x i e = ap (λ (y : Option HopValue). option_map (λ (h : HopValue). h.wire) y) (sym (at_last xs x i e))
wire_last true xs x i e =
    subst (λ (b : Bool). Some x.wire ≡ (if b then None else option_map (λ (h : HopValue). h.wire) (slice_get (xs ++ x ∷ []) i))) (sym (not_less i (length xs) e))
    (ap (λ (y : Option HopValue). option_map (λ (h : HopValue). h.wire) y) (sym (at_last xs x i e)))

-- and those of the others
pub wire_before : (alone : Bool) (xs : List HopValue) (x : HopValue) (i : ℕ) → i ≢ length xs
    → (if alone then None else option_map (λ (h : HopValue). h.wire) (slice_get xs i))
    ≡ (if alone && nat_lt i (length xs) then None else option_map (λ (h : HopValue). h.wire) (slice_get (xs ++ x ∷ []) i))
wire_before false xs x i n = ap (λ (y : Option HopValue). option_map (λ (h : HopValue). h.wire) y) (sym (before_last xs x i n))
wire_before true xs x i n = by (nat_lt i (length xs)) refl
  where
    by : (b : Bool) → nat_lt i (length xs) ≡ b → None ≡ (if b then None else option_map (λ (h : HopValue). h.wire) (slice_get (xs ++ x ∷ []) i))
    by true e = refl
    by false e = ap (λ (y : Option HopValue). option_map (λ (h : HopValue). h.wire) y) (sym (before_last xs x i n ∙ slice_get_past xs i (past i (length xs) e)))
