use Rattle.mx_history.proofs.ReceiptLaws.{fits_by_its_cut}
use Rattle.mx_history.proofs.laws.fits_by_its_cut.Goals as goal

pub returns : goal.returns
returns c = fits_by_its_cut
