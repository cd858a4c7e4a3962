use Rattle.std.proofs.Common.{◌≡◌, ◌+◌}
use Rattle.crossbeam_channel.specs.Claims.{view}
use Rattle.mx_lock.specs.Lock.{IsKeyOf, founder_at, known_of}
use Rattle.mx_multi.proofs.founding.skip.Given as goal

abbrev pub invariant-loop-spare : goal.invariant-loop-spare
invariant-loop-spare g l = IsKeyOf l.lock l.founder × (view l.founder ≡ founder_at (known_of (view l.fn.founder)) (1 + l.spare))
