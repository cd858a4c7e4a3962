use Rattle.std.proofs.Common.{◌≡◌, ℕ, ◌<◌}
use Rattle.std.specs.Prelude.{Some}
use Rattle.mx_save_book.specs.declared.job.Job.{Job}
use Rattle.mx_save_book.specs.Jobs.{job_at}
use Rattle.mx_save_book.proofs.book.Book.is_empty.Given as goal

abbrev pub invariant-loop-slot : goal.invariant-loop-slot
invariant-loop-slot g l = (i : ℕ) (p : Job) → i < l.slot-index → job_at l.slot-items i ≡ Some p → ⊥
