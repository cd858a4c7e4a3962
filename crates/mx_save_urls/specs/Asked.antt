-- What is added at a desk of the URLs of a run.
use Rattle.std.specs.Prelude.{◌≡◌, ℕ, true, List, Option, Some, None, count_by, slice_get, slice_set}
use Rattle.mx_types.specs.declared.names.Ticket.{Ticket}
use Rattle.mx_request.specs.Request.{RequestValue}
use Rattle.mx_save_book.specs.Books.{HasNoneAdded}
use Rattle.mx_save_book.specs.Jobs.{Asks, is_taken}
use Rattle.mx_save_rules.specs.declared.asking.Asking.{Asking}
use Rattle.mx_save_book.specs.declared.job.Job.{Job}
use Rattle.mx_save_book.specs.declared.job.Slot.{Slot}
use Rattle.mx_save_book.specs.declared.job.Slot.TheVariants as slot
use Rattle.mx_save_urls.specs.Works.{WorkValue}
use Rattle.mx_fetch.specs.declared.turned.Turned.{Turned}
use Rattle.mx_fetch.specs.declared.turned.Turned.TheVariants as how

-- rule save-requests
-- Of each URL whose transfer is added, its request is added under the number of its slot.
abbrev pub AreAsked : Asking → List Slot → List (Option RequestValue) → Type 0
AreAsked asking slots asked = (i : ℕ) (job : Job) (ticket : Ticket) (number : ℕ) → slice_get slots i ≡ Some (slot.Added job ticket number)
    → (request : RequestValue) × (slice_get asked i ≡ Some (Some request)) × Asks asking job.url.items request

-- this request is added under a number, where nothing was
pub record AddsRequest (old new : List (Option RequestValue)) (at : ℕ) (request : RequestValue) : Type 0 where
  pub free : slice_get old at ≡ Some None
  pub asked : new ≡ slice_set old at (Some request)

-- the request that was added under a number has ended, and nothing is added under it now
pub record EndsRequest (old new : List (Option RequestValue)) (at : ℕ) (request : RequestValue) : Type 0 where
  pub added : slice_get old at ≡ Some (Some request)
  pub asked : new ≡ slice_set old at None

-- rule save-long-runs: Where a history is full, the run goes on with another multi handle: at the same gates once all that was added has
-- ended, and else, after half a second, at gates of its own beside the full one.
--
-- where all URLs have ended no transfer is added, all were read and none has a slot; and none is added where a history is full and the desk
-- isn't left early
abbrev pub HasTurned : {W : Type 0} → WorkValue W → Turned → Type 0
HasTurned w how.AllEnded = HasNoneAdded w.book.slots × (w.is_read ≡ true) × (count_by is_taken w.book.slots ≡ 0)
HasTurned w how.HistoryFull = HasNoneAdded w.book.slots
HasTurned w how.Held = Unit {0}
