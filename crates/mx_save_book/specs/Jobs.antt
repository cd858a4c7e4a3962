-- The URLs of a run, and what each ended with.
use Rattle.std.specs.Prelude.{IsUtf8, ◌≡◌, ◌≢◌, ◌⊎◌, ℕ, ◌+◌, ◌-◌, ◌^◌, ◌<◌, ◌≤◌, ◌==◌, min, Bool, true, false, List, [], ◌∷◌, ◌++◌, length, map, take, count_by, Option, Some, None, IfSome, Ok, Err, slice_get, ⊤}
use Rattle.std.specs.Option.{option_map_or}
use Rattle.std.specs.List.{Contains, AllByRecursion}
use Rattle.mx_request.specs.Request.{RequestValue, request_of}
use Rattle.mx_request.specs.RequestError.{refusal_code}
use Rattle.mx_request.specs.declared.error.RequestError.{RequestError}
use Rattle.mx_request.specs.declared.error.RequestError.TheVariants as refusal
use Rattle.mx_chain.specs.Outcomes.{OutcomeValue, IsEnd as IsTransferEnd, hops_of}
use Rattle.mx_sink.specs.Sinks.{is_sink_code}
use Rattle.mx_folder.specs.Names.{base_name, count_of, names_of, numbered}
use Rattle.mx_folder.specs.declared.errors.FolderError.{FolderError}
use Rattle.mx_folder.specs.declared.steps.FolderCall.TheVariants as call
use Rattle.mx_folder.specs.declared.steps.Kind.TheVariants as kind
use Rattle.mx_folder.specs.declared.steps.Step.{Step}
use Rattle.mx_folder.specs.declared.steps.Step.TheVariants.{Looked, Refused}
use Rattle.mx_folder.specs.Moments.{IsLater}
use Rattle.mx_folder.specs.Steps.{refusals, refused_calls}
use Rattle.mx_save.specs.Ledgers.{LedgerValue, IsFresh}
use Rattle.mx_save.specs.Made.{MadeValue, without}
use Rattle.mx_save.specs.Tries.{refusal_of, removal_of}
use Rattle.mx_save.specs.Words.{left_text, unsaved_text}
use Rattle.mx_save.specs.declared.error.SaveError.{SaveError}
use Rattle.mx_save.specs.declared.error.SaveError.TheVariants as unsaved
use Rattle.mx_text.specs.Words.{code_words}
use Rattle.mx_save_rules.specs.Decisions.{IsDecision}
use Rattle.mx_save_rules.specs.declared.code.SaveCode.TheVariants as save
use Rattle.mx_save_rules.specs.declared.decision.Decision.{Decision}
use Rattle.mx_save_rules.specs.declared.decision.Decision.TheVariants as decision
use Rattle.mx_save_rules.specs.Ends.{EndValue, IsEnd, failed_end}
use Rattle.mx_save_rules.specs.Rules.{is_retried}
use Rattle.mx_save_rules.specs.declared.end.Verdict.{Verdict}
use Rattle.mx_save_rules.specs.declared.end.Verdict.TheVariants as verdict
use Rattle.mx_save_end.specs.Bodies.{IsWholeBody}
use Rattle.mx_save_end.specs.Heard.{HeardValue, body_length}
use Rattle.mx_save_end.specs.Framings.{TellsFraming}
use Rattle.mx_save_end.specs.Said.{IsSaid, IsUnsavedSaid, unsaved_code}
use Rattle.mx_save_rules.specs.declared.asking.Asking.{Asking}
use Rattle.mx_save_book.specs.declared.finish.NotEnded.{NotEnded}
use Rattle.mx_save_book.specs.declared.finish.NotEnded.TheVariants as not_ended
use Rattle.mx_save_book.specs.declared.job.Job.{Job}
use Rattle.mx_save_book.specs.declared.job.Slot.{Slot}
use Rattle.mx_save_book.specs.declared.job.Slot.TheVariants as slot
use Rattle.mx_save_book.specs.Lines.{LinesValue, PrintedLineValue}

-- the request is that of the URL
abbrev pub Asks : Asking → List ℕ → RequestValue → Type 0
Asks asking url request = request_of asking.method url asking.settings ≡ Ok request

-- a request can be made of the URL
pub record CanAsk (asking : Asking) (url : List ℕ) : Type 0 where
  pub text : IsUtf8 url
  pub request : RequestValue
  pub asks : Asks asking url request

-- the URL in a slot
abbrev pub job_of : Slot → Option Job
job_of slot.Free = None
job_of (slot.Waiting job) = Some job
job_of (slot.Open job number) = Some job
job_of (slot.Added job ticket number) = Some job

abbrev pub is_taken : Slot → Bool
is_taken slot.Free = false
is_taken (slot.Waiting job) = true
is_taken (slot.Open job number) = true
is_taken (slot.Added job ticket number) = true

-- whether the part of this number is that of the URL
abbrev pub has_part : ℕ → Slot → Bool
has_part n slot.Free = false
has_part n (slot.Waiting job) = false
has_part n (slot.Open job number) = number == n
has_part n (slot.Added job ticket number) = number == n

-- the numbers of the parts in flight are those of the URLs in the slots, each as often
abbrev pub AreOut : List ℕ → List Slot → Type 0
AreOut out slots = (n : ℕ) → count_by (λ m. m == n) out ≡ count_by (has_part n) slots

abbrev pub job_at : List Slot → ℕ → Option Job
job_at slots i = option_map_or job_of (slice_get slots i) None

-- the bodies that were saved, each with its name, the newest first
abbrev pub Saves : Type 0
Saves = List (List ℕ × OutcomeValue)

-- each of them is whole
abbrev pub AreWhole : Saves → Type 0
AreWhole saves = AllByRecursion (λ e. IsWholeBody e.1) saves

-- a try of a URL, counted from 1
abbrev pub IsTry : Asking → ℕ → Type 0
IsTry asking tries = (1 ≤ tries) × (tries ≤ asking.retries + 1)

-- What is reported of a transfer of which this is the outcome: the status of its last response, how many requests it made, how the end of
-- the body was found, and which try it was.
pub record IsReported (asking : Asking) (outcome : OutcomeValue) (e : EndValue) : Type 0 where
  pub status : e.status ≡ outcome.status
  pub hops : e.hops ≡ min (length (hops_of outcome)) (2 ^ 32 - 1)
  pub framing : TellsFraming outcome.last.request.method outcome.wire e.framing
  pub tries : IsTry asking e.tries

-- no transfer was made
abbrev pub IsUntried : EndValue → Type 0
IsUntried e = (e.status ≡ 0) × (e.hops ≡ 0) × (e.framing ≡ None) × (e.tries ≡ 0)

-- A URL that was reported as saved: under the name that was reported a whole body was saved, that of this outcome of a transfer of the URL's
-- request, whose status is one that is saved; and what was reported is the outcome's.
pub record IsSavedEnd (asking : Asking) (saves : Saves) (outcome : OutcomeValue) (e : EndValue) : Type 0 where
  pub name : List ℕ
  pub file : e.file ≡ Some name
  pub saved : Contains saves (name, outcome)
  pub whole : IsWholeBody outcome
  pub asked : Asks asking e.url outcome.request
  pub decided : IsDecision outcome.code outcome.last.request.method outcome.status asking.content_on_error decision.Save
  pub size : e.length ≡ body_length outcome
  pub report : IsReported asking outcome e

-- A URL that was reported as done: this outcome of a transfer of its request is whole, and has nothing to save; and what was reported is the
-- outcome's.
pub record IsDoneEnd (asking : Asking) (outcome : OutcomeValue) (e : EndValue) : Type 0 where
  pub is : IsTransferEnd outcome
  pub asked : Asks asking e.url outcome.request
  pub decided : IsDecision outcome.code outcome.last.request.method outcome.status asking.content_on_error decision.Done
  pub size : e.length ≡ body_length outcome
  pub report : IsReported asking outcome e

-- since the run began the folder was asked what is under the name, and found a regular file
pub record HasFound (l : LedgerValue OutcomeValue) (name : List ℕ) : Type 0 where
  pub since : List Step
  pub steps : l.steps ≡ since ++ l.start
  pub found : Contains since (Looked name kind.File)

-- since the run began the folder has refused each of these calls
pub record HasRefused (l : LedgerValue OutcomeValue) (calls : List Step) : Type 0 where
  pub since : List Step
  pub steps : l.steps ≡ since ++ l.start
  pub each : AllByRecursion (Contains (refused_calls since)) calls

-- a URL that was skipped: that was asked for, and the folder had a file of the name that was reported
pub record IsSkippedEnd (asking : Asking) (l : LedgerValue OutcomeValue) (e : EndValue) : Type 0 where
  pub asked : asking.skip_existing ≡ true
  pub name : List ℕ
  pub file : e.file ≡ Some name
  pub found : HasFound l name
  pub untried : IsUntried e

-- no request is made of the URL, for this reason
abbrev pub Refuses : Asking → List ℕ → RequestError → Type 0
Refuses asking url why = (request_of asking.method url asking.settings ≡ Err why) ⊎ (¬ (IsUtf8 url) × (why ≡ refusal.Malformed))

-- a URL that failed, since it is refused
pub record IsRefusedEnd (asking : Asking) (e : EndValue) : Type 0 where
  pub why : RequestError
  pub refuses : Refuses asking e.url why
  pub code : e.code ≡ save.Transfer (refusal_code why)
  pub words : e.error ≡ Some (code_words (refusal_code why))
  pub untried : IsUntried e

-- what is reported of it
abbrev pub refused_end : List ℕ → RequestError → EndValue
refused_end url why =
    failed_end url (save.Transfer (refusal_code why)) (record { status = 0; length = 0; framing = None; hops = 0; tries = 0 })
    (Some (code_words (refusal_code why)))

-- A URL that failed, since nothing is saved of this outcome of a transfer of its request: by the code of that, or by its status. Where its part
-- is left, the folder has refused to remove it since the run began, with this answer.
pub record IsFailedTransfer (asking : Asking) (l : LedgerValue OutcomeValue) (outcome : OutcomeValue) (e : EndValue) : Type 0 where
  pub is : IsTransferEnd outcome
  pub asked : Asks asking e.url outcome.request
  pub decided : IsDecision outcome.code outcome.last.request.method outcome.status asking.content_on_error (decision.Fail e.code)
  pub report : IsReported asking outcome e
  pub text : List ℕ
  pub said : IsSaid outcome text
  pub part : List ℕ
  pub left : Option FolderError
  pub words : e.error ≡ Some (text ++ left_text part left)
  pub calls : HasRefused l (removal_of part left)

-- A URL that failed, since the part of its transfer is left, though there was nothing to save, or it would have been tried again. The folder
-- has refused to remove the part since the run began, with this answer.
pub record IsLeftEnd (asking : Asking) (l : LedgerValue OutcomeValue) (outcome : OutcomeValue) (e : EndValue) : Type 0 where
  pub is : IsTransferEnd outcome
  pub asked : Asks asking e.url outcome.request
  pub cause : IsDecision outcome.code outcome.last.request.method outcome.status asking.content_on_error decision.Done
      ⊎ (is_retried asking.method outcome.code outcome.status ≡ true)
  pub report : IsReported asking outcome e
  pub text : List ℕ
  pub said : IsUnsavedSaid outcome text
  pub part : List ℕ
  pub why : FolderError
  pub code : e.code ≡ save.WriteError
  pub words : e.error ≡ Some (text ++ left_text part (Some why))
  pub calls : HasRefused l (Refused call.Remove part why ∷ [])

-- the calls that the folder refused, by what is said of a body that wasn't saved: the one that failed, and the removal of a part that is left
abbrev pub told_refusals : SaveError → Option (List ℕ) → Option FolderError → List Step
told_refusals why None left = []
told_refusals why (Some part) left = removal_of part left ++ refusal_of part why

-- why the body of an outcome wasn't saved: it is whole, and was to be saved; or a write of it was refused, and the code of its transfer is that
-- of content that couldn't be written, or of memory
abbrev pub IsUnsavedFor : Asking → OutcomeValue → SaveError → Type 0
IsUnsavedFor asking outcome why =
    (IsWholeBody outcome × IsDecision outcome.code outcome.last.request.method outcome.status asking.content_on_error decision.Save)
    ⊎ ((error : FolderError) × (why ≡ unsaved.Write error) × (is_sink_code outcome.code ≡ true))

-- A URL that failed, since the body of this outcome wasn't saved: since the run began the folder has refused the very call of that part that the
-- words are of, with that answer.
pub record IsUnsavedEnd (asking : Asking) (l : LedgerValue OutcomeValue) (outcome : OutcomeValue) (e : EndValue) : Type 0 where
  pub is : IsTransferEnd outcome
  pub asked : Asks asking e.url outcome.request
  pub report : IsReported asking outcome e
  pub why : SaveError
  pub known : why ≢ unsaved.OutOfMemory
  pub cause : IsUnsavedFor asking outcome why
  pub part : List ℕ
  pub left : Option FolderError
  pub code : e.code ≡ unsaved_code why
  pub words : e.error ≡ Some (unsaved_text why (Some part) left)
  pub refused : refusals l.start < refusals l.steps
  pub calls : HasRefused l (told_refusals why (Some part) left)

-- A URL that failed, since no part could be made for its body, so that no transfer was made in this try: the folder has refused that since the
-- run began, with this answer; or it was out of memory.
pub record IsUnmadeEnd (asking : Asking) (l : LedgerValue OutcomeValue) (e : EndValue) : Type 0 where
  pub can : CanAsk asking e.url
  pub why : SaveError
  pub part : Option (List ℕ)
  pub code : e.code ≡ unsaved_code why
  pub words : e.error ≡ Some (unsaved_text why part None)
  pub refused : why ≢ unsaved.OutOfMemory → refusals l.start < refusals l.steps
  pub calls : HasRefused l (told_refusals why part None)
  pub untransferred : (e.status ≡ 0) × (e.hops ≡ 0) × (e.framing ≡ None)
  pub tries : IsTry asking e.tries

-- rule save-failures: Of each URL that failed it is said why: of a transfer what its bytes show, of a whole response that its status isn't
-- 2xx.
--
-- a URL that failed with its transfer, which had this outcome: with which cause
abbrev pub IsFailedBy : Asking → LedgerValue OutcomeValue → OutcomeValue → EndValue → Type 0
IsFailedBy asking l outcome e = IsFailedTransfer asking l outcome e ⊎ IsUnsavedEnd asking l outcome e ⊎ IsLeftEnd asking l outcome e

-- what was reported of a URL whose transfer had this outcome holds
abbrev pub HoldsBy : Asking → LedgerValue OutcomeValue → OutcomeValue → EndValue → Verdict → Type 0
HoldsBy asking l outcome e verdict.Saved = IsSavedEnd asking l.entries outcome e
HoldsBy asking l outcome e verdict.Done = IsDoneEnd asking outcome e
HoldsBy asking l outcome e verdict.Skipped = ⊥
HoldsBy asking l outcome e verdict.Failed = IsFailedBy asking l outcome e

-- rule save-failures
-- a URL that failed: with which cause
abbrev pub IsFailedEnd : Asking → LedgerValue OutcomeValue → EndValue → Type 0
IsFailedEnd asking l e = IsRefusedEnd asking e ⊎ IsUnmadeEnd asking l e ⊎ ((outcome : OutcomeValue) × IsFailedBy asking l outcome e)

-- what was reported of a URL holds
abbrev pub HoldsOf : Asking → LedgerValue OutcomeValue → EndValue → Verdict → Type 0
HoldsOf asking l e verdict.Saved = (outcome : OutcomeValue) × IsSavedEnd asking l.entries outcome e
HoldsOf asking l e verdict.Done = (outcome : OutcomeValue) × IsDoneEnd asking outcome e
HoldsOf asking l e verdict.Skipped = IsSkippedEnd asking l e
HoldsOf asking l e verdict.Failed = IsFailedEnd asking l e

-- those of the URLs of which a request can be made, in their order: they take a name
abbrev pub AreNamed : Asking → List (List ℕ) → List (List ℕ) → Type 0
AreNamed asking [] named = named ≡ []
AreNamed asking (url ∷ urls) named =
    (CanAsk asking url × (rest : List (List ℕ)) × (named ≡ url ∷ rest) × AreNamed asking urls rest)
    ⊎ (¬ (CanAsk asking url) × AreNamed asking urls named)

-- the name of the URL at that place: by its text, and by those before it that took a name
pub record IsNameAt (asking : Asking) (urls : List (List ℕ)) (place : ℕ) (name : List ℕ) : Type 0 where
  pub url : List ℕ
  pub at : slice_get urls place ≡ Some url
  pub before : List (List ℕ)
  pub named : AreNamed asking (take place urls) before
  pub is : name ≡ numbered (base_name url) (count_of (map base_name before) (base_name url))

-- of the URL at the place that was reported, under that URL's name, and it is an end
pub record IsTold (asking : Asking) (urls : List (List ℕ)) (l : LedgerValue OutcomeValue) (t : PrintedLineValue) : Type 0 where
  pub url : slice_get urls t.place ≡ Some t.end.url
  pub name : IfSome t.end.file (IsNameAt asking urls t.place)
  pub end : IsEnd t.end
  pub holds : HoldsOf asking l t.end t.end.verdict

-- what is asked of each URL; the URLs so far, and those of them that took a name; the slots of those that have no end yet, and what was
-- reported of the others; and the folder, with what was saved
pub record State : Type 0 where
  pub asking : Asking
  pub urls : List (List ℕ)
  pub named : List (List ℕ)
  pub slots : List Slot
  pub told : List PrintedLineValue
  pub ledger : LedgerValue OutcomeValue

-- the same, with the output and the folder, and whether the run has stopped
pub record BookValue (W : Type 0) : Type 0 where
  pub asking : Asking
  pub urls : List (List ℕ)
  pub named : List (List ℕ)
  pub slots : List Slot
  pub lines : LinesValue W
  pub ledger : LedgerValue OutcomeValue
  pub is_stopped : Bool

abbrev pub state_of : {W : Type 0} → BookValue W → State
state_of b = record { asking = b.asking; urls = b.urls; named = b.named; slots = b.slots; told = b.lines.told; ledger = b.ledger }

-- a URL that has no end yet: it is at its place, a request can be made of it, its name is that of its place and one of those that were given,
-- nothing was saved under it, and it has tries left
pub record Pends (asking : Asking) (urls named : List (List ℕ)) (saves : Saves) (job : Job) : Type 0 where
  pub url : slice_get urls job.place ≡ Some job.url.items
  pub asks : CanAsk asking job.url.items
  pub name : IsNameAt asking urls job.place job.name
  pub given : Contains (names_of named) job.name
  pub fresh : IsFresh job.name saves
  pub tries : IsTry asking job.tries

-- it is in a slot
abbrev pub IsPending : List Slot → ℕ → Type 0
IsPending slots place = (i : ℕ) × (job : Job) × (job_at slots i ≡ Some job) × (job.place ≡ place)

-- it was reported
abbrev pub HasEnded : List PrintedLineValue → ℕ → Type 0
HasEnded told place = (t : PrintedLineValue) × Contains told t × (t.place ≡ place)

abbrev pub is_saved : Verdict → Bool
is_saved verdict.Saved = true
is_saved _ = false

abbrev pub is_told_saved : PrintedLineValue → Bool
is_told_saved t = is_saved t.end.verdict

-- Each URL is in a slot, or it has ended, and there are as many ends as URLs that aren't in one. What was reported holds. Those of which a
-- request can be made have names. No two of the names are alike, and nothing was saved but under a name that was given; and as many bodies were saved as URLs were reported as saved.
pub record IsBook (b : State) (n : ℕ) (names : List (List ℕ)) : Type 0 where
  pub read : n ≡ length b.urls
  pub bases : names ≡ map base_name b.named
  pub named : AreNamed b.asking b.urls b.named
  pub fewer : length b.named ≤ length b.urls
  pub pending : (i : ℕ) (job : Job) → job_at b.slots i ≡ Some job → Pends b.asking b.urls b.named b.ledger.entries job
  pub apart : (i j : ℕ) (p q : Job) → job_at b.slots i ≡ Some p → job_at b.slots j ≡ Some q → p.name ≡ q.name → i ≡ j
  pub given : AllByRecursion (λ e. Contains (names_of b.named) e.0) b.ledger.entries
  pub told : AllByRecursion (IsTold b.asking b.urls b.ledger) b.told
  pub each : (place : ℕ) → place < length b.urls → IsPending b.slots place ⊎ HasEnded b.told place
  pub count : length b.urls ≡ count_by is_taken b.slots + length b.told
  pub owed : length b.ledger.entries ≡ count_by is_told_saved b.told

-- What holds of every book, also of a run that has stopped: what was reported, and each body that was saved is whole. Unless it has, all else
-- holds, too, and the parts in flight are those of the URLs in the slots.
pub record IsAccount (b : State) (is_stopped : Bool) (n : ℕ) (names : List (List ℕ)) : Type 0 where
  pub told : AllByRecursion (IsTold b.asking b.urls b.ledger) b.told
  pub whole : AreWhole b.ledger.entries
  pub going : is_stopped ≡ false → IsBook b n names
  pub out : is_stopped ≡ false → AreOut b.ledger.out b.slots

-- more was done to the folder of the same run
pub record IsLaterLedger (old new : LedgerValue OutcomeValue) : Type 0 where
  pub start : new.start ≡ old.start
  pub flush : new.flush ≡ old.flush
  pub later : IsLater old.steps new.steps

-- the saves grow by a whole body under this name, if they do
abbrev pub GrowsBy : List ℕ → Saves → Saves → Type 0
GrowsBy name old new = (new ≡ old) ⊎ ((outcome : OutcomeValue) × IsWholeBody outcome × (new ≡ (name, outcome) ∷ old))

-- rule save-bodies
-- they grow by one whole body where a URL is reported as saved, and only there
abbrev pub GrowsFor : List ℕ → Verdict → Saves → Saves → Type 0
GrowsFor name v old new =
    ((is_saved v ≡ false) × (new ≡ old)) ⊎ ((is_saved v ≡ true) × (outcome : OutcomeValue) × IsWholeBody outcome × (new ≡ (name, outcome) ∷ old))

-- a file is named so, if one is
abbrev pub MayName : List ℕ → Option (List ℕ) → Type 0
MayName name file = IfSome file (λ n. n ≡ name)

-- Private: it is of a transfer of the URL's request, and its decision is by what is asked
pub record IsHeardOf (asking : Asking) (job : Job) (h : HeardValue) : Type 0 where
  pub asked : Asks asking job.url.items h.outcome.request
  pub decided : IsDecision h.outcome.code h.outcome.last.request.method h.outcome.status asking.content_on_error h.decision
  pub once : IsTry asking h.told.tries

-- Private: a refused write is why nothing is saved: else the response would be done, or fail with its status
abbrev pub IsNeeded : Decision → Type 0
IsNeeded d = (d ≢ decision.Done) × (d ≢ decision.Fail save.HttpReturnedError)

-- Private: the part is one of those in flight
pub record IsPartOf (l : LedgerValue OutcomeValue) (made : MadeValue) : Type 0 where
  pub process : made.process ≡ l.process
  pub out : Contains l.out made.number

-- rule file-no-part-left
-- no part more is left, or one that these words name
abbrev pub TellsLeft : LedgerValue OutcomeValue → LedgerValue OutcomeValue → Option (List ℕ) → Type 0
TellsLeft old new words =
    (new.left ≡ old.left) ⊎ ((part before after : List ℕ) × (new.left ≡ part ∷ old.left) × (words ≡ Some (before ++ (part ++ after))))

-- Private: what a URL ended with whose transfer had this outcome, under its name, by what was done to the folder: that holds
pub record IsEnding (asking : Asking) (job : Job) (outcome : OutcomeValue) (old new : LedgerValue OutcomeValue) (e : EndValue) : Type 0 where
  pub url : e.url ≡ job.url.items
  pub grows : GrowsFor job.name e.verdict old.entries new.entries
  pub name : MayName job.name e.file
  pub holds : HoldsBy asking new outcome e e.verdict
  pub left : TellsLeft old new e.error

-- the folder refused to remove one part more
abbrev pub LeavesPart : LedgerValue OutcomeValue → LedgerValue OutcomeValue → Type 0
LeavesPart old new = (part : List ℕ) × (new.left ≡ part ∷ old.left)

-- Private: a URL that has no end comes back as it was, where it is to be tried again
abbrev pub HandsBack : Job → Bool → NotEnded → Type 0
HandsBack job may_retry not_ended.OutOfMemory = ⊤
HandsBack job may_retry not_ended.NoPart = ⊤
HandsBack job may_retry (not_ended.Again back) = (back ≡ job) × (may_retry ≡ true)

-- Private: and its part has come back, and was removed
abbrev pub ComesBack : ℕ → LedgerValue OutcomeValue → LedgerValue OutcomeValue → NotEnded → Type 0
ComesBack number old new not_ended.OutOfMemory = ⊤
ComesBack number old new not_ended.NoPart = ⊤
ComesBack number old new (not_ended.Again back) = (new.out ≡ without number old.out) × (new.left ≡ old.left)
