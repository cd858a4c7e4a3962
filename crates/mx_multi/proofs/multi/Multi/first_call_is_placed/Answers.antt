use Rattle.mx_multi.proofs.Runs.{first_is_placed}
use Rattle.mx_multi.proofs.multi.Multi.first_call_is_placed.Goals as goal

pub returns : goal.returns
returns g c = λ j ties who s t call reply. first_is_placed c.args.self.now j ties who s t call reply
