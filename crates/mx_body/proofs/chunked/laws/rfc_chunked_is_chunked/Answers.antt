use Rattle.mx_body.proofs.ChunkedRfcLemmas.{rfc_there, rfc_back}
use Rattle.mx_body.proofs.chunked.laws.rfc_chunked_is_chunked.Goals as goal

pub returns-clause-there : goal.returns-clause-there
returns-clause-there c = rfc_there

pub returns-clause-back : goal.returns-clause-back
returns-clause-back c = rfc_back
