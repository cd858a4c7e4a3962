use Rattle.mx_multi.proofs.Standing.{right_seat}
use Rattle.mx_multi.proofs.multi.Multi.confirmed_seats_are_right.Goals as goal

pub returns : goal.returns
returns g c = λ s all h. right_seat g.O.Ending.code_of g.O.Ending.size_of s all h
