use Rattle.mx_turn.proofs.Newest as proof
use Rattle.mx_turn.proofs.idle_laws.take_gives_what_was_put.Goals as goal

pub returns : goal.returns
returns g c = proof.take_gives_what_was_put
