use Rattle.mx_head.proofs.ScanLemmas.{scanned_stays}
use Rattle.mx_head.proofs.laws.scan_stays_true.Goals as goal

pub returns : goal.returns
returns c = scanned_stays
