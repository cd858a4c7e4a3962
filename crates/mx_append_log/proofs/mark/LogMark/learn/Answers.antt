use Rattle.std.proofs.Common.{rules}
use Rattle.mx_append_log.proofs.mark.LogMark.learn.Goals as goal

pub returns-clause-all : goal.returns-clause-all
returns-clause-all g c = search rules
