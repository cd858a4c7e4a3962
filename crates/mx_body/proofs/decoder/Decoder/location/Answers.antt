use Rattle.mx_body.proofs.ProgressLemmas.{known_location, located_bytes, located_within}
use Rattle.mx_body.proofs.decoder.Decoder.location.Goals as goal

pub returns-clause-place : goal.returns-clause-place
returns-clause-place c = rw (← c.self.view_is, c.location.ensures) (known_location _ _ c.self.invariant.1)

pub returns-clause-bytes : goal.returns-clause-bytes
returns-clause-bytes c = rw (← c.self.view_is, c.location.ensures) (located_bytes _ _ (known_location _ _ c.self.invariant.1))

pub returns-clause-within : goal.returns-clause-within
returns-clause-within c = rw (← c.self.view_is, c.location.ensures) (located_within _ _ (known_location _ _ c.self.invariant.1))
