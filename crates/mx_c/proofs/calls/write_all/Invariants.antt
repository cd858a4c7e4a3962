use Rattle.std.proofs.Common.{◌≡◌, ◌++◌, drop, map, take}
use Rattle.mx_c.proofs.calls.write_all.Given as goal

-- the first so many are written
abbrev pub invariant-loop-at : goal.invariant-loop-at
invariant-loop-at l = l.out ≡ take l.at (map (λ h. h.0) l.handles) ++ drop l.at l.fn.out
