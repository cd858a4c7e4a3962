-- A failure is told to those who asked before it came.
use Rattle.std.proofs.Common.{◌≡◌, ◌∙◌, ℕ, suc, ◌-◌, ◌<◌, ◌≤◌, nat_lt, nat_le, true, not, cond, ◌&&◌, refl, ap, arith, inl, inr}
use Rattle.std.specs.Prelude.{Err, count_by}
use Rattle.std.proofs.lemmas.Bool.Decides.{leb_tells}
use Rattle.mx_names.specs.declared.entry.Learnt.{Learnt}
use Rattle.mx_names.specs.declared.answer.HostAnswer.TheVariants as answers
use Rattle.mx_names.specs.Names.{is_open, is_under_way, tells, told, kept_ms, most_lookups}
use Rattle.mx_names.specs.Laws.{FailuresAreTold}

less_tells : (a b : ℕ) → a < b → nat_lt a b ≡ true
less_tells a b less = elim (leb_tells (suc a) b) as (λ _. nat_lt a b ≡ true) [
  | inl t ↦ t.0
  | inr f ↦ absurd (let g = f.1 in omega (arith, g, less))
]

at_most_tells : (a b : ℕ) → a ≤ b → nat_le a b ≡ true
at_most_tells a b at_most = elim (leb_tells a b) as (λ _. nat_le a b ≡ true) [
  | inl t ↦ t.0
  | inr f ↦ absurd (let g = f.1 in omega (arith, g, at_most))
]

pub failures_are_told : FailuresAreTold
failures_are_told host failed since moment now states is asked young =
    let learnt : Learnt = record { outcome = Err failed; moment = moment } in
    let tells_so : tells since now learnt ≡ true =
    rw (less_tells (now - moment) kept_ms (omega (arith, young)), at_most_tells since moment asked) refl in (
      ap (λ s. told since now s) is ∙ ap (λ b. cond b (answers.Failed failed) answers.NotYet) tells_so,
      ap (λ s. is_open since now s && nat_lt (count_by is_under_way states) most_lookups) is
          ∙ ap (λ b. not b && nat_lt (count_by is_under_way states) most_lookups) tells_so,
    )
