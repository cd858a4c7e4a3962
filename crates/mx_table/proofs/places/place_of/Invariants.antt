use Rattle.std.proofs.Common.{ℕ, ◌≢◌, ◌<◌, ◌≤◌, ◌-◌, length, get_or}
use Rattle.mx_table.proofs.places.place_of.Given as goal

abbrev pub invariant-by_sixteen : goal.invariant-by_sixteen
invariant-by_sixteen l = (l.at ≤ length l.numbers) × ((k : ℕ) → k < l.at → get_or l.numbers k 0 ≢ l.wanted)

abbrev pub decreases-by_sixteen : goal.decreases-by_sixteen
decreases-by_sixteen l = length l.numbers - l.at

abbrev pub invariant-loop-at : goal.invariant-loop-at
invariant-loop-at l = (l.at ≤ length l.numbers) × ((k : ℕ) → k < l.at → get_or l.numbers k 0 ≢ l.wanted)

abbrev pub decreases-loop-at : goal.decreases-loop-at
decreases-loop-at l = length l.numbers - l.at
