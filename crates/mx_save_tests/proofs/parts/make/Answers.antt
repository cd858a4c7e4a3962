use Rattle.std.proofs.Common.{subst, sym}
use Rattle.std.specs.List.{Contains}
use Rattle.mx_save_tests.proofs.Outs.{one_more}
use Rattle.mx_save_tests.proofs.parts.make.Goals as goal

pub returns-in-Ok-clause-others : goal.returns-in-Ok-clause-others
returns-in-Ok-clause-others g c other has = subst (λ l. Contains l other) (sym c.in-Ok.ensures.out) (one_more _ other _ has)
