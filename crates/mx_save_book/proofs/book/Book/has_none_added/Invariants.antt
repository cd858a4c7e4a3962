use Rattle.std.proofs.Common.{◌≡◌, ℕ, ◌<◌}
use Rattle.std.specs.Prelude.{Some, slice_get}
use Rattle.mx_types.specs.declared.names.Ticket.{Ticket}
use Rattle.mx_save_book.specs.declared.job.Job.{Job}
use Rattle.mx_save_book.specs.declared.job.Slot.TheVariants as slot
use Rattle.mx_save_book.proofs.book.Book.has_none_added.Given as goal

abbrev pub invariant-loop-slot : goal.invariant-loop-slot
invariant-loop-slot g l = (i : ℕ) (job : Job) (ticket : Ticket) (number : ℕ) → i < l.slot-index → slice_get l.slot-items i ≡ Some (slot.Added job ticket number) → ⊥
