use Rattle.std.proofs.Common.{rules}
use Rattle.mx_folder.specs.Names.{base_name}
use Rattle.mx_folder.proofs.names.base_name.Goals as goal

pub returns : goal.returns
unfolding base_name
returns c = search rules
