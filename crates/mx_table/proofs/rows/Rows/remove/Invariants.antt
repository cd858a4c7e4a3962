use Rattle.std.proofs.Common.{ℕ, ◌≡◌, ◌≤◌, ◌<◌, length, get_or, false}
use Rattle.std.specs.Prelude.{not}
use Rattle.std.specs.List.{filter}
use Rattle.mx_history.specs.declared.row.Row.{Row}
use Rattle.mx_history.specs.History.{same_ticket}
use Rattle.mx_table.proofs.rows.Rows.remove.Given as goal

abbrev pub invariant-loop-at : goal.invariant-loop-at
invariant-loop-at l = record {
  within : l.from ≤ length l.self;
  same : filter (λ r. not (same_ticket r.ticket l.fn.ticket)) l.self ≡ filter (λ r. not (same_ticket r.ticket l.fn.ticket)) l.fn.self;
  before : (k : ℕ) (d : Row) → k < l.from → same_ticket (get_or l.self k d).ticket l.fn.ticket ≡ false;
}

abbrev pub decreases-loop-at : goal.decreases-loop-at
decreases-loop-at l = length l.self
