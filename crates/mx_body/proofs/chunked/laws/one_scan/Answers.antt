use Rattle.mx_body.proofs.ChunkedLawProofs.{one_scan_each}
use Rattle.mx_body.proofs.chunked.laws.one_scan.Goals as goal

pub returns : goal.returns
returns c = one_scan_each
