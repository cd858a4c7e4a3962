use Rattle.std.proofs.Common.{ℕ, ◌≢◌, ◌<◌, ◌≤◌, ◌-◌, length, map, get_or}
use Rattle.mx_save.proofs.parts_out.Out.place_of.Given as goal

-- no part before this place has the number
abbrev pub invariant-loop-self : goal.invariant-loop-self
invariant-loop-self l =
    let numbers = map (λ part. part.number) l.self-inside.parts.items in
    (l.place ≤ length numbers) × ((k : ℕ) → k < l.place → get_or numbers k 0 ≢ l.number)

abbrev pub decreases-loop-self : goal.decreases-loop-self
decreases-loop-self l = length (map (λ part. part.number) l.self-inside.parts.items) - l.place
