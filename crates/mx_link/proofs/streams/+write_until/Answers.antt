use Rattle.std.proofs.Common.{Err, ap, ◌∙◌}
use Rattle.mx_link.specs.declared.streams.Called.TheVariants as called
use Rattle.mx_link.proofs.Settling.{settled_once_more}
use Rattle.mx_link.proofs.streams.+write_until.Goals as goal

pub returns-in-Err-Interrupted-clause-settled : goal.returns-in-Err-Interrupted-clause-settled
returns-in-Err-Interrupted-clause-settled g t c =
    settled_once_more (λ x. called.Write x _) c.args.more _ _ _ c.write.result c.write_until.result c.write.ensures.told (c.in-Err-Interrupted.is ∙ ap Err c.in-Err-Interrupted.field-0-is) c.if-more-gt0.true c.write_until.ensures.settled
