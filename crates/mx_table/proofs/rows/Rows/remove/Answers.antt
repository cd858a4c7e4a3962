use Rattle.std.proofs.Common.{◌∙◌, ◌<◌, sym, ap, arith, length, inl, inr}
use Rattle.std.specs.Prelude.{not}
use Rattle.std.specs.List.{filter}
use Rattle.std.proofs.lemmas.Bool.{cases_lt}
use Rattle.std.proofs.lemmas.List.Edits.{length-remove, get_or-remove_below}
use Rattle.mx_history.specs.declared.row.Row.{Row}
use Rattle.mx_history.specs.History.{same_ticket}
use Rattle.mx_table.proofs.Lookups.{filter_removed, filter_none}
use Rattle.mx_table.proofs.rows.Rows.remove.Goals as goal

pub loop-at-preserved : goal.loop-at-preserved
loop-at-preserved c =
    let rows = c.loop-at.self in
    let at = c.in-Some.at in
    let less : at < length rows = c.in-Some.ensures.within.1 in
    let e = c.remove_at.ensures in record {
      within = omega (arith, less, ap length e, length-remove rows at less);
      same = ap (filter (λ (r : Row). not (same_ticket r.ticket c.args.ticket))) e ∙ filter_removed (λ (r : Row). not (same_ticket r.ticket c.args.ticket)) rows at less (λ d. ap not (c.in-Some.ensures.there d)) ∙ c.loop-at.invariant.same;
      before = rw e
          (λ k d before. ap (λ (r : Row). same_ticket r.ticket c.args.ticket) (get_or-remove_below rows at d k before less)
          ∙ elim (cases_lt k c.loop-at.from) [
            | inl early ↦ c.loop-at.invariant.before k d early
            | inr late ↦ c.in-Some.ensures.first k d late before
          ]);
    }

pub returns : goal.returns
returns c =
    sym (filter_none (λ (r : Row). not (same_ticket r.ticket c.args.ticket)) c.loop-at.self
    (λ k d lt. ap not (elim (cases_lt k c.loop-at.from) [
      | inl early ↦ c.loop-at.invariant.before k d early
      | inr late ↦ c.in_default.ensures.none k d late lt
    ])))
    ∙ c.loop-at.invariant.same
