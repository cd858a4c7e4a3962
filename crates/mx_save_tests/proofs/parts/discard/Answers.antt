use Rattle.std.proofs.Common.{◌∙◌, subst, sym}
use Rattle.std.specs.List.{Contains}
use Rattle.mx_save_tests.proofs.Outs.{still_out}
use Rattle.mx_save_tests.proofs.parts.discard.Goals as goal

pub returns-clause-others : goal.returns-clause-others
returns-clause-others g c other apart has =
    subst (λ l. Contains l other) (sym c.discard.ensures.out) (still_out _ other _ (λ e. apart (e ∙ c.is_of.ensures.number c.if-not-is_of.false)) has)
