-- A part was made for a URL, or none could be.
use Rattle.std.proofs.Common.{◌≡◌, ◌∙◌, refl, ap, sym, subst, ℕ, List, []}
use Rattle.mx_save.specs.PartSinks.{PartSinkValue, got_of}
use Rattle.mx_request.specs.Request.{RequestValue}
use Rattle.mx_sink.specs.Outlets.{OutletValue, handed_of}
use Rattle.mx_save_rules.specs.declared.waiting.Wait.{Wait}
use Rattle.mx_save_book.specs.Books.{Begins, HasOpen, IsJobFor, WaitsOn, next_job}
use Rattle.mx_save_book.specs.Jobs.{BookValue}
use Rattle.mx_save_rules.specs.declared.asking.Asking.{Asking}
use Rattle.mx_save_book.specs.declared.begun.Begun.{Begun}
use Rattle.mx_save_book.specs.declared.begun.Begun.TheVariants as begun
use Rattle.mx_save_book.specs.declared.job.Slot.{Slot}
use Rattle.mx_save_book.specs.declared.job.Slot.TheVariants as slot
use Rattle.mx_save_urls.specs.Works.{AddsNone, AreBroughtOn, OthersAreBroughtOn}
use Rattle.mx_save_urls.proofs.Asked.{job_on}
use Rattle.mx_save_urls.proofs.Waits.{all_freed, others_set}
use Rattle.mx_save_urls.proofs.Works.{adds_none, adds_same}

-- no transfer is added by it
pub adds_none_begun : {W : Type 0} (old new : BookValue W) (at : ℕ) (b : Begun (OutletValue PartSinkValue)) → Begins old new at b → AddsNone old.slots new.slots
adds_none_begun old new at (begun.Spool spool number) h =
    subst (AddsNone old.slots) (sym h.opened.is) (adds_none old.slots at (slot.Open h.opened.job number) refl)
adds_none_begun old new at begun.Ended h = subst (AddsNone old.slots) (sym h.slots) (adds_none old.slots at slot.Free refl)
adds_none_begun old new at (begun.Waits delay) h =
    subst (AddsNone old.slots) (sym h.waits.is) (adds_none old.slots at (slot.Waiting (next_job h.waits.job)) refl)
adds_none_begun old new at begun.Busy h = adds_same old.slots new.slots h.slots

-- all others are brought on
pub others_begun : {W : Type 0} (old new : BookValue W) (ws : List Wait) (at : ℕ) (b : Begun (OutletValue PartSinkValue)) → Begins old new at b
    → OthersAreBroughtOn at old.slots ws → OthersAreBroughtOn at new.slots ws
others_begun old new ws at (begun.Spool spool number) h all = others_set old.slots new.slots ws at (slot.Open h.opened.job number) h.opened.is all
others_begun old new ws at begun.Ended h all = others_set old.slots new.slots ws at slot.Free h.slots all
others_begun old new ws at (begun.Waits delay) h all = others_set old.slots new.slots ws at (slot.Waiting (next_job h.waits.job)) h.waits.is all
others_begun old new ws at begun.Busy h all = subst (λ l. OthersAreBroughtOn at l ws) (sym h.slots) all

-- a URL that has ended is none
pub all_ended : {W : Type 0} (old new : BookValue W) (ws : List Wait) (at : ℕ) → Begins old new at begun.Ended → OthersAreBroughtOn at old.slots ws
    → AreBroughtOn new.slots ws
all_ended old new ws at h all = all_freed old.slots new.slots ws at h.slots all

-- its part is there, and the delivery with it has nothing
pub has_open : {W : Type 0} (old new : BookValue W) (at number : ℕ) (spool : OutletValue PartSinkValue) → Begins old new at (begun.Spool spool number)
    → HasOpen new.slots at
has_open old new at number spool h = (h.opened.job, number, h.opened.open_now)

pub is_empty : {W : Type 0} (old new : BookValue W) (at number : ℕ) (spool : OutletValue PartSinkValue) → Begins old new at (begun.Spool spool number)
    → handed_of (λ (s : PartSinkValue). got_of s) spool ≡ []
is_empty old new at number spool h = ap (handed_of (λ (s : PartSinkValue). got_of s)) h.is

-- its request is its own still
pub for_begun : {W : Type 0} (asking : Asking) (old new : BookValue W) (at number : ℕ) (spool : OutletValue PartSinkValue) (request : RequestValue)
    → new.asking ≡ asking → Begins old new at (begun.Spool spool number) → IsJobFor asking old.slots at request → IsJobFor new.asking new.slots at request
for_begun asking old new at number spool request same h its =
    job_on asking new.asking old.slots new.slots at (slot.Open h.opened.job number) h.opened.job request same h.opened.there h.opened.open_now refl its

-- a URL to which no transfer was added waits for the same try
pub adds_none_back : (old new : List Slot) (at : ℕ) → WaitsOn old new at → AddsNone old new
adds_none_back old new at back = subst (AddsNone old) (sym back.is) (adds_none old at (slot.Waiting back.job) refl)

pub others_back : (old new : List Slot) (ws : List Wait) (at : ℕ) → WaitsOn old new at → OthersAreBroughtOn at old ws → OthersAreBroughtOn at new ws
others_back old new ws at back all = others_set old new ws at (slot.Waiting back.job) back.is all
