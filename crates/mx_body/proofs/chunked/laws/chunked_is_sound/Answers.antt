use Rattle.mx_body.proofs.ChunkedLawProofs.{body_is_sound, large_may_become}
use Rattle.mx_body.proofs.chunked.laws.chunked_is_sound.Goals as goal

pub returns-clause-body : goal.returns-clause-body
returns-clause-body c = body_is_sound

pub returns-clause-large : goal.returns-clause-large
returns-clause-large c = large_may_become
