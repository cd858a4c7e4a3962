use Rattle.mx_save.proofs.Names.{distinct}
use Rattle.mx_save.proofs.laws.parts_are_distinct.Goals as goal

pub returns : goal.returns
returns c = distinct
