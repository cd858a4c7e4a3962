use Rattle.std.proofs.Common.{◌≡◌, map, take}
use Rattle.mx_table.proofs.rows.Rows.handles.Given as goal

abbrev pub invariant-loop-row : goal.invariant-loop-row
invariant-loop-row l = l.list.items ≡ map (λ r. r.handle) (take l.row-index l.row-items)
