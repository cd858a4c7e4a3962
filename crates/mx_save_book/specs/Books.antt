-- What the calls of a book do.
use Rattle.std.specs.Prelude.{◌≡◌, ◌⊎◌, ℕ, ◌+◌, ◌-◌, ◌*◌, ◌^◌, ◌==◌, ◌<◌, ◌&&◌, nat_le, min, Bool, true, false, if◌then◌else◌, List, [], ◌∷◌, length, count_by, Option, Some, None, Result, Ok, ◌≢◌, slice_get, slice_set, ◌++◌}
use Rattle.std.specs.Option.{option_map_or}
use Rattle.std.specs.List.{AllByRecursion}
use Rattle.mx_types.specs.declared.code.Code.{Code}
use Rattle.mx_types.specs.declared.code.Code.TheVariants as code
use Rattle.mx_types.specs.declared.names.Ticket.{Ticket}
use Rattle.mx_request.specs.Request.{RequestValue}
use Rattle.mx_request.specs.declared.error.RequestError.{RequestError}
use Rattle.mx_chain.specs.Outcomes.{OutcomeValue}
use Rattle.mx_folder.specs.Names.{part_of}
use Rattle.mx_folder.specs.declared.errors.FolderError.{FolderError}
use Rattle.mx_folder.specs.declared.steps.Kind.{Kind}
use Rattle.mx_folder.specs.declared.steps.Kind.TheVariants as kind
use Rattle.mx_folder.specs.Steps.{looked, refusals}
use Rattle.mx_save.specs.PartSinks.{PartSinkValue, empty_sink}
use Rattle.mx_folder.specs.declared.errors.FolderError.TheVariants as folder
use Rattle.mx_save.specs.Ledgers.{LedgerValue}
use Rattle.mx_save.specs.Tries.{AreTried, IsRefusedBy, refusal_of}
use Rattle.mx_save.specs.Words.{unsaved_text}
use Rattle.mx_save.specs.declared.error.SaveError.{SaveError}
use Rattle.mx_save.specs.declared.error.SaveError.TheVariants as unsaved
use Rattle.mx_save_end.specs.Said.{unsaved_code}
use Rattle.mx_save_rules.specs.Ends.{EndValue, failed_end, skipped_end}
use Rattle.mx_save_rules.specs.Rules.{delay_seconds, is_retried}
use Rattle.mx_sink.specs.Outlets.{OutletValue}
use Rattle.mx_save_rules.specs.declared.asking.Asking.{Asking}
use Rattle.mx_save_book.specs.declared.begun.Begun.{Begun}
use Rattle.mx_save_book.specs.declared.begun.Begun.TheVariants as begun
use Rattle.mx_save_book.specs.declared.job.Job.{Job}
use Rattle.mx_save_book.specs.declared.job.Slot.{Slot}
use Rattle.mx_save_book.specs.declared.job.Slot.TheVariants as slot
use Rattle.mx_save_book.specs.Lines.{LinesValue, PrintedLineValue}
use Rattle.mx_save_book.specs.Jobs.{AreWhole, Asks, BookValue, HasEnded, HasFound, HoldsBy, IsTold, LeavesPart, Refuses, TellsLeft, has_part, is_told_saved, job_at, job_of, refused_end}

-- no URL was read yet
pub record IsFreshBook {W : Type 0} (a : Asking) (l : LedgerValue OutcomeValue) (ls : LinesValue W) (ss : List Slot) (b : BookValue W) : Type 0 where
  pub asking : b.asking ≡ a
  pub lines : b.lines ≡ ls
  pub urls : b.urls ≡ []
  pub slots : b.slots ≡ ss
  pub ledger : b.ledger ≡ l
  pub going : b.is_stopped ≡ false

-- it is the same run: what is asked, where its output and its folder began, how ends are printed, and whether bodies are flushed
pub record IsSameRun {W : Type 0} (old new : BookValue W) : Type 0 where
  pub asking : new.asking ≡ old.asking
  pub output : new.lines.start ≡ old.lines.start
  pub json : new.lines.json ≡ old.lines.json
  pub folder : new.ledger.start ≡ old.ledger.start
  pub flush : new.ledger.flush ≡ old.ledger.flush

-- a URL with this text is in the slot now, and waits
pub record StandsAt (old new : List Slot) (at : ℕ) (text : List ℕ) : Type 0 where
  pub job : Job
  pub is : new ≡ slice_set old at (slot.Waiting job)
  pub url : job.url.items ≡ text
  pub waits : slice_get new at ≡ Some (slot.Waiting job)

-- the URL in the slot waits
abbrev pub Waits : List Slot → ℕ → Type 0
Waits slots at = (job : Job) × (slice_get slots at ≡ Some (slot.Waiting job))

-- the URL in the slot has a part, and its transfer isn't added yet
abbrev pub HasOpen : List Slot → ℕ → Type 0
HasOpen slots at = (job : Job) × (number : ℕ) × (slice_get slots at ≡ Some (slot.Open job number))

-- Private: the URL in the slot, and the number of its part
pub record IsOut (slots : List Slot) (at : ℕ) (job : Job) (number : ℕ) : Type 0 where
  pub is : Slot
  pub there : slice_get slots at ≡ Some is
  pub url : job_of is ≡ Some job
  pub part : has_part number is ≡ true

-- the folder has found a regular file under the name of the URL in the slot, which waits
pub record IsFoundAt (slots : List Slot) (at : ℕ) (l : LedgerValue OutcomeValue) : Type 0 where
  pub job : Job
  pub there : job_at slots at ≡ Some job
  pub waits : slice_get slots at ≡ Some (slot.Waiting job)
  pub found : HasFound l job.name

-- the request is that of the URL in the slot
pub record IsJobFor (asking : Asking) (slots : List Slot) (at : ℕ) (request : RequestValue) : Type 0 where
  pub job : Job
  pub there : job_at slots at ≡ Some job
  pub asked : Asks asking job.url.items request

-- the transfer of the URL in the slot is added
abbrev pub IsAwaited : List Slot → ℕ → Type 0
IsAwaited slots at = (job : Job) × (ticket : Ticket) × (number : ℕ) × (slice_get slots at ≡ Some (slot.Added job ticket number))

-- the URL in the slot has this part now
pub record IsOpened (old new : List Slot) (at number : ℕ) : Type 0 where
  pub job : Job
  pub there : job_at old at ≡ Some job
  pub is : new ≡ slice_set old at (slot.Open job number)
  pub open_now : slice_get new at ≡ Some (slot.Open job number)

-- the URL in the slot has its addition under this ticket now
pub record IsAdded (old new : List Slot) (at : ℕ) (ticket : Ticket) : Type 0 where
  pub job : Job
  pub number : ℕ
  pub there : slice_get old at ≡ Some (slot.Open job number)
  pub is : new ≡ slice_set old at (slot.Added job ticket number)

-- the URL in the slot waits for the same try as before
pub record WaitsOn (old new : List Slot) (at : ℕ) : Type 0 where
  pub job : Job
  pub there : job_at old at ≡ Some job
  pub is : new ≡ slice_set old at (slot.Waiting job)

-- the number of the next try, held at the greatest of 32 bits
abbrev pub next_try : ℕ → ℕ
next_try tries = min (tries + 1) (2 ^ 32 - 1)

-- rule save-retries
-- how many milliseconds a URL waits after so many tries, the last of which ended with that code and that status, if it is to be tried again
abbrev pub delay_of : Asking → ℕ → Code → ℕ → Option ℕ
delay_of asking tries code status =
    if nat_le tries asking.retries && is_retried asking.method code status then Some (1000 * delay_seconds tries) else None

-- the same of the URL in a slot
abbrev pub Delays : Asking → List Slot → ℕ → Code → ℕ → Option ℕ → Type 0
Delays asking slots at code status delay = (job : Job) → job_at slots at ≡ Some job → delay ≡ delay_of asking job.tries code status

-- the URL before a further try
abbrev pub next_job : Job → Job
next_job job = record job { tries = next_try job.tries }

-- the URL in the slot waits for a further try
pub record WaitsAgain (old new : List Slot) (at : ℕ) : Type 0 where
  pub job : Job
  pub there : job_at old at ≡ Some job
  pub is : new ≡ slice_set old at (slot.Waiting (next_job job))

-- no transfer is added of what is there
abbrev pub is_unadded : Slot → Bool
is_unadded slot.Free = true
is_unadded (slot.Waiting job) = true
is_unadded (slot.Open job number) = true
is_unadded (slot.Added job ticket number) = false

-- the slot is free now, or its URL waits for a further try
pub record IsClosed (old new : List Slot) (at : ℕ) : Type 0 where
  pub left : Slot
  pub is : new ≡ slice_set old at left
  pub unadded : is_unadded left ≡ true

-- no end was reported
abbrev pub TellsNone : {W : Type 0} → BookValue W → BookValue W → Type 0
TellsNone old new = new.lines.told ≡ old.lines.told

-- a URL was read and is refused, for this reason, and that was reported
pub record IsRefusedNow {W : Type 0} (old new : BookValue W) (url : List ℕ) : Type 0 where
  pub why : RequestError
  pub refuses : Refuses old.asking url why
  pub told : new.lines.told ≡ old.lines.told ++ record { place = length old.urls; end = refused_end url why } ∷ []

-- the URL in the slot has ended, and this was reported of it
pub record IsToldAt {W : Type 0} (old new : BookValue W) (at : ℕ) (e : EndValue) : Type 0 where
  pub job : Job
  pub there : job_at old.slots at ≡ Some job
  pub url : e.url ≡ job.url.items
  pub told : new.lines.told ≡ old.lines.told ++ record { place = job.place; end = e } ∷ []

-- the URL in the slot has ended since the folder has a regular file of its name, and that was reported
pub record IsSkippedNow {W : Type 0} (old new : BookValue W) (at : ℕ) : Type 0 where
  pub job : Job
  pub there : job_at old.slots at ≡ Some job
  pub asked : old.asking.skip_existing ≡ true
  pub found : HasFound new.ledger job.name
  pub told : new.lines.told ≡ old.lines.told ++ record { place = job.place; end = skipped_end job.url.items job.name } ∷ []

-- the folder was asked what is under the name of the URL that waits in the slot, and found no regular file
abbrev pub LooksInVain : List Slot → ℕ → LedgerValue OutcomeValue → LedgerValue OutcomeValue → Type 0
LooksInVain slots at old new = (job : Job) → slice_get slots at ≡ Some (slot.Waiting job)
    → (answer : Result Kind FolderError) × (new.steps ≡ looked answer job.name ∷ old.steps) × (answer ≢ Ok kind.File)

-- that, where it is skipped; else no end was reported, and the folder was asked in vain, if it was to be asked
abbrev pub Skips : {W : Type 0} → BookValue W → BookValue W → ℕ → Bool → Type 0
Skips old new at true = IsSkippedNow old new at
Skips old new at false = TellsNone old new × (old.asking.skip_existing ≡ true → LooksInVain old.slots at old.ledger new.ledger)

-- the URL in the slot has ended with its transfer, which had this outcome: what was reported of it holds of that, and names its part, if that
-- is left
pub record IsEndedBy {W : Type 0} (old new : BookValue W) (at : ℕ) (outcome : OutcomeValue) : Type 0 where
  pub end : EndValue
  pub told : IsToldAt old new at end
  pub holds : HoldsBy old.asking new.ledger outcome end end.verdict
  pub left : TellsLeft old.ledger new.ledger end.error

-- the slot is free now; or, where milliseconds come back, its URL waits for a further try
abbrev pub LeavesSlot : List Slot → List Slot → ℕ → Option ℕ → Type 0
LeavesSlot old new at None = new ≡ slice_set old at slot.Free
LeavesSlot old new at (Some delay) = WaitsAgain old new at

-- What comes back of the URL in a slot, whose transfer ended so: the milliseconds until it is tried again, by its code and its status. Where
-- these give some none may come back, but only where the folder refused to remove its part.
abbrev pub Retries : {W : Type 0} → BookValue W → BookValue W → ℕ → OutcomeValue → Option ℕ → Type 0
Retries old new at outcome delay =
    Delays old.asking old.slots at outcome.code outcome.status delay
    ⊎ ((delay ≡ None) × LeavesPart old.ledger new.ledger)

-- no transfer is added
abbrev pub HasNoneAdded : List Slot → Type 0
HasNoneAdded slots = (i : ℕ) (job : Job) (ticket : Ticket) (number : ℕ) → slice_get slots i ≡ Some (slot.Added job ticket number) → ⊥

-- too many files are open to open one for a part: the folder refused that, and else it refused none but parts that were there
abbrev pub IsFileLimit : LedgerValue OutcomeValue → LedgerValue OutcomeValue → Type 0
IsFileLimit old new = (part : List ℕ) × AreTried old new part (refusal_of part (unsaved.Create folder.TooManyOpen))

-- rule save-limit
-- A part was made for the body of the URL in the slot: it is the URL's now, and one more is in flight. The delivery with it got nothing yet, and has
-- the limit that is asked for.
pub record HasBegun {W : Type 0} (old new : BookValue W) (at : ℕ) (spool : OutletValue PartSinkValue) (number : ℕ) : Type 0 where
  pub is : spool ≡ record { sink = empty_sink (part_of old.ledger.process number); left = []; failure = None; count = 0; most_bytes = old.asking.most_bytes }
  pub opened : IsOpened old.slots new.slots at number
  pub out : new.ledger.out ≡ number ∷ old.ledger.out
  pub told : TellsNone old new

-- what is reported of a URL for whose body no part could be made, in that try
abbrev pub unmade_end : List ℕ → ℕ → SaveError → Option (List ℕ) → EndValue
unmade_end url tries why part =
    failed_end url (unsaved_code why) (record { status = 0; length = 0; framing = None; hops = 0; tries = tries }) (Some (unsaved_text why part None))

-- that was reported of the URL in the slot: where too many files were open, it had no tries left
pub record IsUnmadeNow {W : Type 0} (old new : BookValue W) (at : ℕ) (why : SaveError) (part : Option (List ℕ)) : Type 0 where
  pub job : Job
  pub there : job_at old.slots at ≡ Some job
  pub told : new.lines.told ≡ old.lines.told ++ record { place = job.place; end = unmade_end job.url.items job.tries why part } ∷ []
  pub last : why ≡ unsaved.Create folder.TooManyOpen → None ≡ delay_of old.asking job.tries code.CouldntConnect 0

-- the URL in the slot has ended, since the folder refused to make a part, with this answer, or was out of memory; where too many files were open,
-- none was by a transfer that is added
pub record HasEndedUnmade {W : Type 0} (old new : BookValue W) (at : ℕ) : Type 0 where
  pub slots : new.slots ≡ slice_set old.slots at slot.Free
  pub out : new.ledger.out ≡ old.ledger.out
  pub why : SaveError
  pub part : Option (List ℕ)
  pub refused : IsRefusedBy old.ledger new.ledger why part None
  pub told : IsUnmadeNow old new at why part
  pub idle : why ≡ unsaved.Create folder.TooManyOpen → HasNoneAdded old.slots

-- rule file-descriptors: A URL for whose body no file can be opened, since too many are open, is tried again as one is whose connection couldn't
-- be made; at the same try while transfers are added, which have files open.
--
-- too many files are open to make a part, and no transfer is added: the URL in the slot waits for a further try
pub record WaitsForFile {W : Type 0} (old new : BookValue W) (at delay : ℕ) : Type 0 where
  pub waits : WaitsAgain old.slots new.slots at
  pub delays : Delays old.asking old.slots at code.CouldntConnect 0 (Some delay)
  pub limit : IsFileLimit old.ledger new.ledger
  pub refused : refusals old.ledger.steps < refusals new.ledger.steps
  pub idle : HasNoneAdded old.slots
  pub out : new.ledger.out ≡ old.ledger.out
  pub told : TellsNone old new

-- rule file-descriptors
-- too many files are open to make a part, while transfers are added: the URL waits for the same try
pub record IsBusy {W : Type 0} (old new : BookValue W) : Type 0 where
  pub slots : new.slots ≡ old.slots
  pub limit : IsFileLimit old.ledger new.ledger
  pub busy : ¬ (HasNoneAdded old.slots)
  pub out : new.ledger.out ≡ old.ledger.out
  pub told : TellsNone old new

-- what comes back of a URL that waits, for whose body a part is to be made
abbrev pub Begins : {W : Type 0} → BookValue W → BookValue W → ℕ → Begun (OutletValue PartSinkValue) → Type 0
Begins old new at (begun.Spool spool number) = HasBegun old new at spool number
Begins old new at begun.Ended = HasEndedUnmade old new at
Begins old new at (begun.Waits delay) = WaitsForFile old new at delay
Begins old new at begun.Busy = IsBusy old new

-- the addition of this ticket is that of the URL in the slot
abbrev pub awaits : Ticket → Slot → Bool
awaits t slot.Free = false
awaits t (slot.Waiting job) = false
awaits t (slot.Open job number) = false
awaits t (slot.Added job ticket number) = ticket.0 == t.0

abbrev pub awaits_at : List Slot → ℕ → Ticket → Bool
awaits_at slots i t = option_map_or (awaits t) (slice_get slots i) false

-- rule save-bodies: A body is saved for a URL that is reported as saved, and for no other.
--
-- All URLs have ended: what was reported holds, each URL was reported, and as many ends were reported as there are URLs; and no more bodies
-- were saved than URLs were reported as saved: of one that failed, or was skipped, nothing was. Each of these bodies is whole.
pub record HaveEnded (asking : Asking) (urls : List (List ℕ)) (l : LedgerValue OutcomeValue) (told : List PrintedLineValue) : Type 0 where
  pub holds : AllByRecursion (IsTold asking urls l) told
  pub each : (place : ℕ) → place < length urls → HasEnded told place
  pub count : length told ≡ length urls
  pub owed : length l.entries ≡ count_by is_told_saved told
  pub whole : AreWhole l.entries
