use Rattle.mx_body.proofs.ChunkedLawProofs.{parts_are_the_data}
use Rattle.mx_body.proofs.chunked.laws.parts_are_data.Goals as goal

pub returns : goal.returns
returns c = parts_are_the_data
