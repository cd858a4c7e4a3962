use Rattle.std.proofs.Common.{subst, sym}
use Rattle.mx_save.specs.Ledgers.{IsFresh}
use Rattle.mx_save_tests.proofs.parts.save.Goals as goal

pub returns-in-Ok-clause-fresh : goal.returns-in-Ok-clause-fresh
returns-in-Ok-clause-fresh g c other apart fresh = c.keep.ensures.fresh other apart (subst (λ l. IsFresh other l) (sym c.make.ensures.entries) fresh)
