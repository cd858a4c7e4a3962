use Rattle.std.proofs.Common.{◌≡◌, ℕ, ◌<◌, false}
use Rattle.std.specs.Prelude.{Some, slice_get}
use Rattle.mx_desk.specs.Additions.{AdditionView}
use Rattle.mx_desk.proofs.desk.is_any_beside.Given as goal

abbrev pub invariant-loop-addition : goal.invariant-loop-addition
invariant-loop-addition l = (i : ℕ) (a : AdditionView) → i < l.addition-index → slice_get l.additions i ≡ Some (Some a) → a.beside ≡ false
