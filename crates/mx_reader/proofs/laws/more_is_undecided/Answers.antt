use Rattle.mx_reader.proofs.HeldLemmas.{more_is_undecided}
use Rattle.mx_reader.proofs.laws.more_is_undecided.Goals as goal

pub returns : goal.returns
returns c = more_is_undecided
