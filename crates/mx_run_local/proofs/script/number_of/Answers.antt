use Rattle.mx_run_local.proofs.Words.{not_number, number_is}
use Rattle.std.proofs.Common.{◌∙◌, sym}
use Rattle.mx_run_local.proofs.script.number_of.Goals as goal

pub returns-then-not-is_numeral : goal.returns-then-not-is_numeral
returns-then-not-is_numeral c = not_number _ (sym c.is_numeral.ensures ∙ c.if-not-is_numeral.true)

pub returns : goal.returns
returns c = c.value_of.ensures ∙ number_is _ (sym c.is_numeral.ensures ∙ c.if-not-is_numeral.false)
