-- Who waits until when, by moment.
use Rattle.std.specs.Prelude.{◌≡◌, ℕ, ◌<◌, ◌≤◌, List, [], ◌∷◌, ◌++◌, Option, Some, None}
use Rattle.std.specs.List.{AllByRecursion}
use Rattle.mx_save_rules.specs.declared.waiting.Wait.{Wait}

-- none waits until an earlier moment than one before it
abbrev pub IsInOrder : List Wait → Type 0
IsInOrder [] = Unit {0}
IsInOrder (w ∷ ws) = AllByRecursion (λ v. w.moment ≤ v.moment) ws × IsInOrder ws

-- rule save-waiting
-- one more, after all that wait until its moment or an earlier one, and before the others
pub record Adds (old new : List Wait) (w : Wait) : Type 0 where
  pub earlier : List Wait
  pub later : List Wait
  pub kept : old ≡ earlier ++ later
  pub is : new ≡ earlier ++ w ∷ later
  pub before : AllByRecursion (λ v. v.moment ≤ w.moment) earlier
  pub behind : AllByRecursion (λ v. w.moment < v.moment) later

-- rule save-waiting: Those that wait to be tried again come out by moment, and then as they were added.
--
-- who has waited longest of those whose moment has come; where none's has, nothing changes
abbrev pub PopsDue : ℕ → List Wait → Option ℕ → List Wait → Type 0
PopsDue now old (Some job) new = (moment : ℕ) × (moment ≤ now) × (old ≡ record { moment = moment; job = job } ∷ new)
PopsDue now old None new = (new ≡ old) × AllByRecursion (λ w. now < w.moment) old
