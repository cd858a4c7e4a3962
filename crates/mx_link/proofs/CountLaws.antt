-- Faults are counted, and calls that would have waited.
use Rattle.std.proofs.Common.{◌≡◌, ℕ, ◌+◌, ◌-◌, ◌^◌, ◌<◌, Bool, true, false, cond, List, [], ◌∷◌, ◌++◌, min, refl, sym, ap, ◌∙◌, ◌⊎◌, inl, inr, arith}
use Rattle.std.proofs.Math.Nat.{min-eq_left, min-eq_right}
use Rattle.std.proofs.lemmas.Bool.{cases_lt}
use Rattle.std.proofs.lemmas.List.Sums.{sum_by-append, sum_by-cons}
use Rattle.mx_link.specs.declared.answers.Answer.{Answer}
use Rattle.mx_link.specs.Answers.{is_fault, faults, is_blocked}
use Rattle.mx_link.specs.Laws.{FaultsAreCounted, WaitsAreCounted}

-- one more answer
faults_with : (before : List Answer) (answer : Answer) → faults (before ++ answer ∷ []) ≡ faults before + cond (is_fault answer) 1 0
faults_with before answer = omega (arith, sum_by-append (λ a. cond (is_fault a) 1 0) before (answer ∷ []), sum_by-cons (λ a. cond (is_fault a) 1 0) answer [])

rises_only : (n m most : ℕ) (fault : Bool) → m ≡ n + cond fault 1 0 → min n most < min m most → fault ≡ true
rises_only n m most true is more = refl
rises_only n m most false is more =
    let same : min m most ≡ min n most = ap (λ k. min k most) (omega (arith, is)) in
    absurd (omega (arith, same, more))

rises_each : (n m most : ℕ) → m ≡ n + 1 → (min m most ≡ min n most + 1) ⊎ (min n most ≡ most)
rises_each n m most is = elim (cases_lt n most) [
  | inl less ↦ inl (min-eq_left (omega (arith, is, less)) ∙ is ∙ ap (λ k. k + 1) (sym (min-eq_left (omega (arith, less)))))
  | inr full ↦ inr (min-eq_right full)
]

pub faults_are_counted : FaultsAreCounted
faults_are_counted before answer = record {
  only = rises_only (faults before) (faults (before ++ answer ∷ [])) (2 ^ 64 - 1) (is_fault answer) (faults_with before answer);
  each = λ fault. rises_each (faults before) (faults (before ++ answer ∷ [])) (2 ^ 64 - 1) (with fault);
} where
  with : is_fault answer ≡ true → faults (before ++ answer ∷ []) ≡ faults before + 1
  with fault = rw fault at (faults_with before answer)

pub waits_are_counted : WaitsAreCounted
waits_are_counted before answer = omega (arith, sum_by-append (λ a. cond (is_blocked a) 1 0) before (answer ∷ []), sum_by-cons (λ a. cond (is_blocked a) 1 0) answer [])
