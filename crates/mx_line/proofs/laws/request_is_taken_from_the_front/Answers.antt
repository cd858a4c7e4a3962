use Rattle.mx_line.proofs.Fronts.{front_from_start}
use Rattle.mx_line.proofs.laws.request_is_taken_from_the_front.Goals as goal

pub returns : goal.returns
returns c = front_from_start
