use Rattle.std.proofs.Common.{rules}
use Rattle.mx_head.proofs.fields.all_numbers_of.Goals as goal

pub loop-element-preserved : goal.loop-element-preserved
loop-element-preserved c = search rules
