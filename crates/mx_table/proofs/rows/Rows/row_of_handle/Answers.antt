use Rattle.std.proofs.Common.{◌∙◌, ap}
use Rattle.std.specs.List.{find}
use Rattle.mx_history.specs.declared.row.Row.{Row}
use Rattle.mx_history.specs.History.{same_handle}
use Rattle.mx_table.proofs.Lookups.{row_found, row_missing}
use Rattle.mx_table.proofs.rows.Rows.row_of_handle.Goals as goal

pub returns-in_err-at : goal.returns-in_err-at
returns-in_err-at c =
    c.from_residual.ensures
    ∙ row_missing (λ r. r.handle.0) c.args.handle.0 c.self.inside.rows.items c.deref.result.now (c.deref.ensures.value ∙ c.self.invariant.0.handles) c.in_err-at.ensures.none
    ∙ ap (find (λ (r : Row). same_handle c.args.handle r.handle)) c.self.view_is

pub returns : goal.returns
returns c =
    let all = c.in_ok-at.ensures in
    row_found (λ r. r.handle.0) c.args.handle.0 c.self.inside.rows.items c.deref.result.now c.in_ok-at.at c.index.result.now (c.deref.ensures.value ∙ c.self.invariant.0.handles) all.within all.there all.first c.index.ensures
    ∙ ap (find (λ (r : Row). same_handle c.args.handle r.handle)) c.self.view_is
