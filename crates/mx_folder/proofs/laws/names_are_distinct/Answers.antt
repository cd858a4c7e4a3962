use Rattle.mx_folder.proofs.Apart.{distinct}
use Rattle.mx_folder.proofs.laws.names_are_distinct.Goals as goal

pub returns : goal.returns
returns c = distinct
