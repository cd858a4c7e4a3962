use Rattle.std.proofs.Common.{rules}
use Rattle.mx_lock.proofs.lock.Lock.enter.Goals as goal

pub put_back-requires-clause-same : goal.put_back-requires-clause-same
put_back-requires-clause-same g c = search rules

pub put_back-requires-clause-queue : goal.put_back-requires-clause-queue
put_back-requires-clause-queue g c = search rules
