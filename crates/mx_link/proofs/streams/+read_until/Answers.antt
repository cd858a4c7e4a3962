use Rattle.std.proofs.Common.{Err, ap, ◌∙◌}
use Rattle.mx_link.proofs.Settling.{read_once_more}
use Rattle.mx_link.proofs.streams.+read_until.Goals as goal

pub returns-in-Err-Interrupted-clause-settled : goal.returns-in-Err-Interrupted-clause-settled
returns-in-Err-Interrupted-clause-settled g t c =
    read_once_more c.args.more _ _ _ _ _ c.read.result c.read_until.result c.read.ensures.told (c.in-Err-Interrupted.is ∙ ap Err c.in-Err-Interrupted.field-0-is) c.read_until.ensures.length c.if-more-gt0.true c.read_until.ensures.settled
