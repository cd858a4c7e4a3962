use Rattle.std.proofs.Common.{◌∙◌, sym, ap, refl}
use Rattle.mx_types.specs.declared.event.What.TheVariants as what
use Rattle.mx_history.specs.Rows.{rows_after}
use Rattle.mx_table.proofs.Lookups.{map_idle}
use Rattle.mx_table.proofs.rows.Rows.enter.Goals as goal

pub returns-in-Wake : goal.returns-in-Wake
returns-in-Wake c = sym (map_idle what.Wake c.args.self.now (λ k d lt. refl)) ∙ ap (rows_after c.args.self.now) (sym c.in-Wake.is)
