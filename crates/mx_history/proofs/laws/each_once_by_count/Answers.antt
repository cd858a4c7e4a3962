use Rattle.mx_history.proofs.ReceiptLaws.{each_once_by_count}
use Rattle.mx_history.proofs.laws.each_once_by_count.Goals as goal

pub returns : goal.returns
returns c = each_once_by_count
