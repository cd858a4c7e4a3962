use Rattle.mx_folder.proofs.Bytes.{safe}
use Rattle.mx_folder.proofs.laws.names_are_safe.Goals as goal

pub returns : goal.returns
returns c = safe
