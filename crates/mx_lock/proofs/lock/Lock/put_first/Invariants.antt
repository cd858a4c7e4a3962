use Rattle.std.proofs.Common.{◌≡◌}
use Rattle.crossbeam_channel.specs.Claims.{view}
use Rattle.mx_lock.specs.Lock.{IsKeyOf}
use Rattle.mx_lock.proofs.lock.Lock.put_first.Given as goal

abbrev pub invariant-loop : goal.invariant-loop
invariant-loop g l = IsKeyOf l.self l.key × (view l.key ≡ view l.fn.key) × (l.engine ≡ l.fn.engine)
