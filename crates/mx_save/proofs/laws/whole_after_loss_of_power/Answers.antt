use Rattle.mx_save.proofs.Runs.{whole_after_loss}
use Rattle.mx_save.proofs.laws.whole_after_loss_of_power.Goals as goal

pub returns : goal.returns
returns g c = whole_after_loss
