use Rattle.std.proofs.Common.{rules}
use Rattle.mx_body.proofs.progress.Progress.status.Goals as goal

pub returns-in-Heads : goal.returns-in-Heads
returns-in-Heads c = search rules
