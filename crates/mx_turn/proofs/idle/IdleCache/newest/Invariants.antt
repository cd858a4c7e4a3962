use Rattle.std.proofs.Common.{◌≤◌, length, drop}
use Rattle.mx_turn.specs.Idle.{HasNone}
use Rattle.mx_turn.proofs.idle.IdleCache.newest.Given as goal

abbrev pub invariant-loop-place : goal.invariant-loop-place
invariant-loop-place g l =
    let links = l.self-inside.links.items in
    (l.place ≤ length links) × HasNone l.endpoint (drop l.place links)

abbrev pub decreases-loop-place : goal.decreases-loop-place
decreases-loop-place g l = l.place
