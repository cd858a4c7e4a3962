use Rattle.std.proofs.Common.{◌∙◌, rules}
use Rattle.std.specs.Prelude.{not, ◌||◌}
use Rattle.std.proofs.lemmas.Fn.{filter_same}
use Rattle.mx_history.specs.History.{reads, removes}
use Rattle.mx_history.proofs.TableLaws.{waits_kept}
use Rattle.mx_table.proofs.waits.enter.Goals as goal

pub returns-in_default-clause-items : goal.returns-in_default-clause-items
returns-in_default-clause-items c =
    filter_same _ (λ t. not (reads t c.args.what.now || removes t c.args.what.now)) _ (λ x b f' k. search rules) _ _ c.retain.ensures.filtered
    ∙ waits_kept c.args.waiting.now.items c.args.what.now c.in_default.not-Done
