use Rattle.std.proofs.Common.{◌≡◌, ◌≤◌, length}
use Rattle.std.specs.Prelude.{All, None, vec_capacity}
use Rattle.mx_desk.proofs.desk.none_added.Given as goal

abbrev pub invariant-loop-made : goal.invariant-loop-made
invariant-loop-made l = record {
  none : All (λ o. o ≡ None) l.additions.items;
  count : length l.additions.items ≡ l.made;
  room : l.fn.count ≤ vec_capacity l.additions;
}
