use Rattle.mx_lock.specs.Engine.{content}
use Rattle.mx_lock.proofs.Keys.{forks}
use Rattle.mx_lock.proofs.lock.Lock.another.Goals as goal

pub another-requires-clause-rule : goal.another-requires-clause-rule
another-requires-clause-rule g c = forks content c.args.key.now.id _ c.requires.makes.0 c.requires.makes.1
