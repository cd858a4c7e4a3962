use Rattle.std.proofs.Common.{◌∙◌, subst, sym}
use Rattle.std.specs.List.{Contains}
use Rattle.mx_save_tests.proofs.Outs.{still_out}
use Rattle.mx_save_tests.proofs.parts.keep.Goals as goal

pub returns-in-None-clause-others : goal.returns-in-None-clause-others
returns-in-None-clause-others g c other apart has =
    subst (λ l. Contains l other) (sym c.keep.ensures.out) (still_out _ other _ (λ e. apart (e ∙ c.is_of.ensures.number c.if-not-is_of.false)) has)

pub returns-in-Some-clause-others : goal.returns-in-Some-clause-others
returns-in-Some-clause-others g c other apart has =
    subst (λ l. Contains l other) (sym c.give_up.ensures.out) (still_out _ other _ (λ e. apart (e ∙ c.is_of.ensures.number c.if-not-is_of.false)) has)
