use Rattle.std.proofs.Common.{ap, subst, sym}
use Rattle.mx_save.specs.Ledgers.{IsFresh}
use Rattle.mx_save_tests.proofs.memory.save_beside.Goals as goal

pub save-two-requires : goal.save-two-requires
save-two-requires g = record {
  fresh = g.save.ensures.fresh g.args.second.now g.requires
      (subst (λ es. IsFresh g.args.second.now es) (sym (ap (λ l. l.entries) g.new-ledger.ensures)) tt);
}
