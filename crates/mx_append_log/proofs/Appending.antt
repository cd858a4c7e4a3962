-- The exchange that adds an entry keeps the rule of the list, and so does the look at its length.
use Rattle.std.proofs.Common.{◌≡◌, ◌≢◌, ℕ, ◌+◌, ◌<◌, ◌==◌, true, false, List, [], ◌∷◌, ◌++◌, append-nil, length, length-append, refl, sym, ap, subst, eq-eqb, ne_eqb, inl, None, arith}
use mathlib.Core.Logic.{dite}
use native.Mathlib.Decide.{ℕ_discrete}
use prog.Atomic.{either}
use Rattle.logbook.specs.Pages.{Cell, cell, keeps, no_nib, step, Moves, Goes}
use Rattle.mx_append_log.specs.Log.{IsKept, Appends, Looks}
use Rattle.mx_append_log.proofs.Prefixes.{prefix_whole}

abbrev words : ℕ → List Cell
words n = (n, true) ∷ (0, true) ∷ []

module _ {T : Type 0} where
  abbrev pub nothing : List T → List T
  nothing _ = []

  abbrev pub any_move : List T → List T → ℕ → Type 0
  any_move _ _ _ = Unit {0}

  -- the exchange of one who has seen v and expects the length n, where the list is log
  abbrev Exchanges : List T → T → ℕ → List T → List Cell → Type 0
  Exchanges v e n log cells =
      Goes IsKept nothing any_move 0 (v, (no_nib, None)) (λ k. either (k == n) (n + 1) k) (Appends (step 0 n (n + 1) e) (v, (no_nib, None))) cells log

  at_its_length : (log : List T) (e : T) → Exchanges log e (length log) log (words (length log))
  at_its_length log e =
      let hit : (length log == length log) ≡ true = eq-eqb (length log) (length log) refl in
      let longer : length log + 1 ≡ length (log ++ e ∷ []) = sym (length-append log (e ∷ [])) in
      (keeps, e ∷ [], None, tt, record { words = rw hit (ap words longer) }, inl (refl, refl), rw hit refl)

  at_another : (v log : List T) (e : T) (n : ℕ) → length log ≢ n → Exchanges v e n log (words (length log))
  at_another v log e n apart =
      let miss : (length log == n) ≡ false = ne_eqb (length log) n apart in
      let all = append-nil log in
      (keeps, [], None, tt, record { words = rw miss (ap (λ (l : List T). words (length l)) (sym all)) }, inl (refl, refl), rw miss (ap length all))

  pub exchange_keeps : (v : List T) (e : T) (n : ℕ) → n ≡ length v
      → Moves IsKept nothing any_move 0 (v, (no_nib, None)) (λ k. either (k == n) (n + 1) k) (Appends (step 0 n (n + 1) e) (v, (no_nib, None)))
  exchange_keeps v e n count cells log kept begins away =
      let step_from : Exchanges v e n log (words (length log)) = dite (ℕ_discrete (length log) n)
      (λ same.
      let all : v ≡ log = prefix_whole v log begins (omega (arith, same, count)) in
      rw (count, all) (at_its_length log e))
      (at_another v log e n) in
      subst (λ cs. (0 < length cs) × ((cell cs 0).1 ≡ true) × Exchanges v e n log cs) (sym kept.words) (omega arith, refl, step_from)

  pub look_keeps : (v : List T) (e : T) → Moves IsKept nothing any_move 0 (v, (no_nib, None)) (λ k. k) (Looks (step 0 0 0 e) (v, (no_nib, None)))
  look_keeps v e cells log kept begins away =
      let all = append-nil log in
      let seen : Goes IsKept nothing any_move 0 (v, (no_nib, None)) (λ k. k) (Looks (step 0 0 0 e) (v, (no_nib, None))) (words (length log)) log =
      (keeps, [], None, tt, record { words = ap (λ (l : List T). words (length l)) (sym all) }, inl (refl, refl), ap length all) in
      subst (λ cs. (0 < length cs) × ((cell cs 0).1 ≡ true) × Goes IsKept nothing any_move 0 (v, (no_nib, None)) (λ k. k) (Looks (step 0 0 0 e) (v, (no_nib, None))) cs log) (sym kept.words)
      (omega arith, refl, seen)
