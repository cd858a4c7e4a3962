use Rattle.std.proofs.Common.{ℕ, ◌≡◌, ◌≤◌, ◌<◌, ◌-◌, length, get_or, map}
use Rattle.mx_history.specs.declared.row.Row.{Row}
use Rattle.mx_history.specs.Rows.{turned}
use Rattle.mx_table.proofs.rows.Rows.turn.Given as goal

abbrev pub invariant-loop-at : goal.invariant-loop-at
invariant-loop-at l = record {
  within : l.from ≤ length l.self;
  same : map (turned l.fn.what) l.self ≡ map (turned l.fn.what) l.fn.self;
  before : (k : ℕ) (d : Row) → k < l.from → turned l.fn.what (get_or l.self k d) ≡ get_or l.self k d;
}

abbrev pub decreases-loop-at : goal.decreases-loop-at
decreases-loop-at l = length l.self - l.from
