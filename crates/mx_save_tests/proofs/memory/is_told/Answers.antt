use Rattle.std.proofs.Common.{ap, subst, sym}
use Rattle.mx_save.specs.Ledgers.{IsFresh}
use Rattle.mx_save_tests.proofs.memory.is_told.Goals as goal

pub save-requires-2 : goal.save-requires-2
save-requires-2 g = record {
  fresh = g.save.ensures.fresh g.args.second.now g.requires
      (subst (λ es. IsFresh g.args.second.now es) (sym (ap (λ l. l.entries) g.new-ledger.ensures)) tt);
}
