-- The work of a run.
use Rattle.std.specs.Prelude.{◌≡◌, ◌≢◌, ◌⊎◌, ℕ, Bool, List, [], ◌∷◌, Option, Some, slice_get}
use Rattle.mx_types.specs.declared.names.Ticket.{Ticket}
use Rattle.mx_save_rules.specs.declared.waiting.Wait.{Wait}
use Rattle.mx_save_book.specs.Books.{IsSameRun}
use Rattle.mx_save_book.specs.Jobs.{BookValue}
use Rattle.mx_save_book.specs.declared.job.Job.{Job}
use Rattle.mx_save_book.specs.declared.job.Slot.{Slot}
use Rattle.mx_save_book.specs.declared.job.Slot.TheVariants as slot

-- the book of the URLs; who of them waits until when; those that were there at first, and those that are left, where that is known; and whether
-- all were read
pub record WorkValue (W : Type 0) : Type 0 where
  pub book : BookValue W
  pub waiting : List Wait
  pub first : Option (List (List ℕ))
  pub left : Option (List (List ℕ))
  pub is_read : Bool

-- it is the same run
pub record IsSameWork {W : Type 0} (old new : WorkValue W) : Type 0 where
  pub book : IsSameRun old.book new.book
  pub first : new.first ≡ old.first

-- no transfer was added
abbrev pub AddsNone : List Slot → List Slot → Type 0
AddsNone old new = (i : ℕ) (job : Job) (ticket : Ticket) (number : ℕ) → slice_get new i ≡ Some (slot.Added job ticket number)
    → slice_get old i ≡ Some (slot.Added job ticket number)

-- the URL in this slot is in the waiting list
abbrev pub IsListed : List Wait → ℕ → Type 0
IsListed [] at = ⊥
IsListed (w ∷ ws) at = (w.job ≡ at) ⊎ IsListed ws at

-- rule save-waiting
-- Each URL that has no end stands in a slot: there its transfer is added, or it is in the waiting list.
abbrev pub AreBroughtOn : List Slot → List Wait → Type 0
AreBroughtOn slots waiting = (i : ℕ) (job : Job) → slice_get slots i ≡ Some (slot.Waiting job) → IsListed waiting i

-- the same, but for the URL in this slot
abbrev pub OthersAreBroughtOn : ℕ → List Slot → List Wait → Type 0
OthersAreBroughtOn at slots waiting = (i : ℕ) (job : Job) → i ≢ at → slice_get slots i ≡ Some (slot.Waiting job) → IsListed waiting i
