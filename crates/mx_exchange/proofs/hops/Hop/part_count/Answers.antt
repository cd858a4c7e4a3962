use Rattle.std.proofs.Common.{length, ap, ◌∙◌, List}
use Rattle.mx_body.specs.declared.part.Part.{Part}
use Rattle.mx_exchange.proofs.HopLemmas.{parts_none}
use Rattle.mx_exchange.proofs.hops.Hop.part_count.Goals as goal

pub returns-clause-none : goal.returns-clause-none
returns-clause-none c = rw (← c.self.view_is) (λ bad. ap (λ (l : List Part). length l) (c.as_slice.ensures.value ∙ parts_none _ c.self.invariant.outcome bad))
