use Rattle.mx_body.proofs.ChunkedLawProofs.{one_body, one_reading}
use Rattle.mx_body.proofs.chunked.laws.chunked_is_one.Goals as goal

pub returns-clause-tree : goal.returns-clause-tree
returns-clause-tree c = one_body

pub returns-clause-reading : goal.returns-clause-reading
returns-clause-reading c = one_reading
