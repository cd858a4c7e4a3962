use Rattle.std.proofs.Common.{◌∙◌}
use Rattle.mx_exchange.proofs.HopLemmas.{kept_slice}
use Rattle.mx_exchange.proofs.hops.Hop.part.Goals as goal

pub returns-clause-some : goal.returns-clause-some
returns-clause-some c less =
    let at = c.bytes_of.ensures in (at.0, at.1, at.2 ∙ kept_slice _ _ _ _ c.know.ensures less)
