-- A book and its slots, as its calls leave them.
use Rattle.std.proofs.Common.{◌≡◌, ◌≢◌, ◌∙◌, refl, ap, sym, subst, ℕ, ◌+◌, ◌*◌, ◌<◌, ◌≤◌, suc, zero, List, [], ◌∷◌, ◌++◌, map, length, Bool, true, false, inl, inr, arith}
use Rattle.std.specs.Prelude.{◌⊎◌, ◌&&◌, if◌then◌else◌, nat_le, Option, Some, None, get_or, is_some, IfSome, IfErr, Result, Ok, Err, IfOk, IsUtf8, MatchOption, MatchResult, OnOk, count_by, slice_get, slice_set}
use Rattle.std.specs.List.{Contains, AllByRecursion}
use Rattle.std.proofs.lemmas.Bool.{eqb-true, leb-true}
use Rattle.mx_types.specs.declared.code.Code.{Code}
use Rattle.mx_request.specs.Request.{RequestValue, request_of}
use Rattle.mx_request.specs.declared.error.RequestError.{RequestError}
use Rattle.mx_request.specs.declared.error.RequestError.TheVariants as refusal
use Rattle.mx_chain.specs.Outcomes.{OutcomeValue}
use Rattle.mx_folder.specs.Names.{names_of}
use Rattle.mx_folder.specs.declared.errors.FolderError.{FolderError}
use Rattle.mx_folder.specs.declared.steps.Kind.{Kind}
use Rattle.mx_folder.specs.declared.steps.Kind.TheVariants as kind
use Rattle.mx_folder.specs.declared.steps.Step.{Step}
use Rattle.mx_folder.specs.Moments.{IsLater}
use Rattle.mx_folder.specs.Steps.{looked}
use Rattle.mx_save.specs.Bodies.{left_of}
use Rattle.mx_save.specs.Ledgers.{LedgerValue}
use Rattle.mx_save.specs.Made.{without}
use Rattle.mx_folder.specs.declared.errors.FolderError.TheVariants as folder
use Rattle.mx_save.specs.Tries.{AreTried, IsRefusedBy, refusal_of}
use Rattle.mx_save.specs.declared.error.SaveError.{SaveError}
use Rattle.mx_save.specs.declared.error.SaveError.TheVariants as unsaved
use Rattle.mx_save_rules.specs.Rules.{delay_seconds, is_retried}
use Rattle.mx_save_rules.specs.Ends.{EndValue, failed_end}
use Rattle.mx_save_rules.specs.declared.end.Transferred.{Transferred}
use Rattle.mx_save_end.specs.Said.{unsaved_code}
use Rattle.mx_save.specs.Words.{unsaved_text}
use Rattle.mx_types.specs.declared.names.Ticket.{Ticket}
use Rattle.mx_save_rules.specs.declared.asking.Asking.{Asking}
use Rattle.mx_save_book.specs.declared.finish.NotEnded.{NotEnded}
use Rattle.mx_save_book.specs.declared.finish.NotEnded.TheVariants as not_ended
use Rattle.mx_save_book.specs.declared.job.Job.{Job}
use Rattle.mx_save_book.specs.declared.job.Slot.{Slot}
use Rattle.mx_save_book.specs.declared.job.Slot.TheVariants as slot
use Rattle.mx_save_book.specs.Jobs.{AreWhole, BookValue, CanAsk, ComesBack, LeavesPart, HandsBack, HasFound, IsAccount, IsBook, IsLaterLedger, AreOut, IsTold, IsTry, Pends, Refuses, Saves, State, has_part, is_taken, job_at, job_of, state_of}
use Rattle.mx_save_book.specs.Books.{Delays, HasNoneAdded, HaveEnded, IsFileLimit, IsFoundAt, IsOpened, IsRefusedNow, TellsNone, IsOut, LeavesSlot, LooksInVain, Waits, WaitsAgain, delay_of, is_unadded, next_try, unmade_end}
use Rattle.mx_save_book.proofs.Parts.{none_out, opened}
use Rattle.mx_save_book.proofs.Slots.{fresh_count, none, there}
use Rattle.mx_save_book.proofs.Books.{again, ended, found_now, refused, same_or_other, some_same, told_on}

-- what was put into a slot in place of what was put there before
set_twice : (slots : List Slot) (i : ℕ) (a v : Slot) → slice_set (slice_set slots i a) i v ≡ slice_set slots i v
set_twice [] i a v = refl
set_twice (s ∷ ss) zero a v = refl
set_twice (s ∷ ss) (suc i) a v = ap (λ l. s ∷ l) (set_twice ss i a v)

pub set_again : (slots between : List Slot) (i : ℕ) (a v : Slot) → between ≡ slice_set slots i a → slice_set between i v ≡ slice_set slots i v
set_again slots between i a v is = ap (λ l. slice_set l i v) is ∙ set_twice slots i a v

pub set_past : (slots : List Slot) (i : ℕ) (v : Slot) → length slots ≤ i → slots ≡ slice_set slots i v
set_past [] i v past = refl
set_past (s ∷ ss) zero v past = absurd (omega (arith, past))
set_past (s ∷ ss) (suc i) v past = ap (λ l. s ∷ l) (set_past ss i v (omega (arith, past)))

pub none_past : (slots : List Slot) (i : ℕ) → length slots ≤ i → None ≡ job_at slots i
none_past [] i past = refl
none_past (s ∷ ss) zero past = absurd (omega (arith, past))
none_past (s ∷ ss) (suc i) past = none_past ss i (omega (arith, past))

pub job_here : (slots : List Slot) (i : ℕ) (s : Slot) → slice_get slots i ≡ Some s → job_of s ≡ job_at slots i
job_here [] i s is = absurd (cc)
job_here (t ∷ ss) zero s is = let same : t ≡ s = cc in ap job_of (sym same)
job_here (t ∷ ss) (suc i) s is = job_here ss i s is

pub texts_push : {X Y : Type 0} (f : X → Y) (xs : List X) (x : X) → map f (xs ++ x ∷ []) ≡ map f xs ++ f x ∷ []
texts_push f [] x = refl
texts_push f (y ∷ xs) x = ap (λ l. f y ∷ l) (texts_push f xs x)

-- where no slot has a URL, none is taken
all_free : (slots : List Slot) → ((i : ℕ) (p : Job) → job_at slots i ≡ Some p → ⊥) → AllByRecursion (λ s. s ≡ slot.Free) slots
all_free [] n = tt
all_free (slot.Free ∷ ss) n = (refl, all_free ss (λ i p is. n (suc i) p is))
all_free (slot.Waiting job ∷ ss) n = absurd (n 0 job refl)
all_free (slot.Open job number ∷ ss) n = absurd (n 0 job refl)
all_free (slot.Added job ticket number ∷ ss) n = absurd (n 0 job refl)

uncounted : (slots : List Slot) → ((i : ℕ) (p : Job) → job_at slots i ≡ Some p → ⊥) → count_by is_taken slots ≡ 0
uncounted slots none_there = fresh_count slots (all_free slots none_there)

pub none_taken : (slots : List Slot) → ((i : ℕ) (p : Job) → job_at slots i ≡ Some p → ⊥) → count_by is_taken slots ≡ 0
none_taken slots none_there = uncounted slots none_there

-- none was saved
pub none_whole : (saves : Saves) → saves ≡ [] → AreWhole saves
none_whole saves none = subst AreWhole (sym none) tt

-- and so of a book
pub told_of : {W : Type 0} (was now : BookValue W) (read : ℕ) (bases : List (List ℕ)) → was ≡ now → IsAccount (state_of was) was.is_stopped read bases
    → AllByRecursion (IsTold now.asking now.urls now.ledger) now.lines.told
told_of {W = W} was now read bases same is =
    let P : BookValue W → Type 0 = λ b. AllByRecursion (IsTold b.asking b.urls b.ledger) b.lines.told in
    subst P same is.told

pub whole_of : {W : Type 0} (was now : BookValue W) (read : ℕ) (bases : List (List ℕ)) → was ≡ now → IsAccount (state_of was) was.is_stopped read bases
    → AreWhole now.ledger.entries
whole_of {W = W} was now read bases same is = let P : BookValue W → Type 0 = λ b. AreWhole b.ledger.entries in subst P same is.whole

pub ended_of : {W : Type 0} (was now : BookValue W) (read : ℕ) (bases : List (List ℕ)) → was ≡ now → IsAccount (state_of was) was.is_stopped read bases
    → now.is_stopped ≡ false → count_by is_taken now.slots ≡ 0 → HaveEnded now.asking now.urls now.ledger now.lines.told
ended_of {W = W} was now read bases same book going empty =
    let P : BookValue W → Type 0 = λ b. IsAccount (state_of b) b.is_stopped read bases in
    let is = subst P same book in
    ended (state_of now) read bases is.whole (is.going going) empty

pub job_within : (slots : List Slot) (i : ℕ) (p : Job) → job_at slots i ≡ Some p → i < length slots
job_within [] i p is = absurd (cc)
job_within (s ∷ ss) zero p is = omega arith
job_within (s ∷ ss) (suc i) p is = let h = job_within ss i p is in omega (arith, h)

-- a request was made of the URL, so one can be
pub can_ask : (asking : Asking) (url text : List ℕ) (r : Result RequestValue RequestError) → IsUtf8 url → text ≡ url
    → MatchResult r (λ q. request_of asking.method text asking.settings ≡ Ok q) (λ e. (request_of asking.method text asking.settings ≡ Err e) ⊎ (e ≡ refusal.OutOfMemory))
    → OnOk r (CanAsk asking url)
can_ask asking url text (Ok q) utf8 same made =
    record { text = utf8; request = q; asks = subst (λ t. request_of asking.method t asking.settings ≡ Ok q) same made }
can_ask asking url text (Err e) utf8 same made = tt

pub can_refuse : (asking : Asking) (url text : List ℕ) (r : Result RequestValue RequestError) → text ≡ url
    → MatchResult r (λ q. request_of asking.method text asking.settings ≡ Ok q) (λ e. (request_of asking.method text asking.settings ≡ Err e) ⊎ (e ≡ refusal.OutOfMemory))
    → IfErr r (λ e. e ≢ refusal.OutOfMemory → Refuses asking url e)
can_refuse asking url text (Ok q) same made = tt
can_refuse asking url text (Err e) same made = λ known.
    elim made [
      | inl is ↦ inl (subst (λ t. request_of asking.method t asking.settings ≡ Err e) same is)
      | inr none ↦ absurd (known none)
    ]

set_length : (slots : List Slot) (i : ℕ) (v : Slot) → length (slice_set slots i v) ≡ length slots
set_length [] i v = refl
set_length (s ∷ ss) zero v = refl
set_length (s ∷ ss) (suc i) v = ap suc (set_length ss i v)

-- a URL that comes back is the one that was handed in
pub handed_back : (job back : Job) (may_retry : Bool) (e : NotEnded) → HandsBack job may_retry e → e ≡ not_ended.Again back → (back ≡ job) × (may_retry ≡ true)
handed_back job back may_retry e hands is = subst (HandsBack job may_retry) is hands

-- a slot whose URL was taken out is there
pub still_within : (slots free : List Slot) (i : ℕ) (v : Slot) (p : Job) → job_at slots i ≡ Some p → free ≡ slice_set slots i v → i < length free
still_within slots free i v p was is = omega (arith, job_within slots i p was, ap length is, set_length slots i v)

-- a folder to which more was done
pub later_on : (b : State) (read : ℕ) (bases : List (List ℕ)) (l : LedgerValue OutcomeValue) → IsBook b read bases → l.entries ≡ b.ledger.entries → IsLaterLedger b.ledger l
    → IsBook (record b { ledger = l }) read bases
later_on b read bases l is kept later = record {
  read = is.read;
  bases = is.bases;
  named = is.named;
  fewer = is.fewer;
  pending = λ i p at. subst (λ s. Pends b.asking b.urls b.named s p) (sym kept) (is.pending i p at);
  apart = is.apart;
  given = subst (AllByRecursion (λ e. Contains (names_of b.named) e.0)) (sym kept) is.given;
  told = told_on b.asking b.urls [] b.ledger l b.told (inl kept) later is.told;
  each = is.each;
  count = is.count;
  owed = ap length kept ∙ is.owed;
}

-- a URL that has tries left has one more
pub next_is_try : (asking : Asking) (tries : ℕ) → 1 ≤ tries → tries ≤ asking.retries → IsTry asking (next_try tries)
next_is_try asking tries some few = (omega (arith, some), omega (arith, few))

pub delay_few : (asking : Asking) (tries : ℕ) (code : Code) (status delay : ℕ) → Some delay ≡ delay_of asking tries code status → tries ≤ asking.retries
delay_few asking tries code status delay is =
    leb-true tries asking.retries (by_tests (nat_le tries asking.retries) (is_retried asking.method code status) (1000 * delay_seconds tries) is)
  where
    by_tests : (few retried : Bool) (n : ℕ) → Some delay ≡ (if few && retried then Some n else None) → few ≡ true
    by_tests true retried n h = refl
    by_tests false retried n h = absurd (cc)

pub delay_retried : (asking : Asking) (slots : List Slot) (at : ℕ) (job : Job) (c told : Code) (status said : ℕ) (delay : Option ℕ) (may_retry : Bool) → job_at slots at ≡ Some job
    → c ≡ told → status ≡ said → Delays asking slots at c status delay → may_retry ≡ is_some delay → may_retry ≡ true → is_retried asking.method told said ≡ true
delay_retried asking slots at job c told status said None may_retry there same alike delays may is = let bad : false ≡ true = sym may ∙ is in absurd (cc)
delay_retried asking slots at job c told status said (Some n) may_retry there same alike delays may is =
    ap (λ x. is_retried asking.method x said) (sym same) ∙ ap (is_retried asking.method c) (sym alike)
    ∙ by_tests (nat_le job.tries asking.retries) (is_retried asking.method c status) (1000 * delay_seconds job.tries) (delays job there)
  where
    by_tests : (few retried : Bool) (m : ℕ) → Some n ≡ (if few && retried then Some m else None) → retried ≡ true
    by_tests true true m h = refl
    by_tests true false m h = absurd (cc)
    by_tests false retried m h = absurd (cc)

pub retry_tries : (asking : Asking) (slots : List Slot) (at : ℕ) (job next : Job) (code : Code) (status : ℕ) (delay : Option ℕ) → Delays asking slots at code status delay
    → is_some delay ≡ true → job_at slots at ≡ Some job → IsTry asking job.tries → next.tries ≡ next_try job.tries → IsTry asking next.tries
retry_tries asking slots at job next code status None delays some there once more = absurd (cc)
retry_tries asking slots at job next code status (Some n) delays some there once more =
    subst (IsTry asking) (sym more) (next_is_try asking job.tries once.0 (delay_few asking job.tries code status n (delays job there)))

pub leaves_waiting : (old new : List Slot) (at : ℕ) (delay : Option ℕ) → is_some delay ≡ true → WaitsAgain old new at → LeavesSlot old new at delay
leaves_waiting old new at None some waits = absurd (cc)
leaves_waiting old new at (Some n) some waits = waits

-- a look at a name
pub look_later : (old new : LedgerValue OutcomeValue) (step : Step) → new ≡ record old { steps = step ∷ old.steps } → IsLaterLedger old new
look_later old new step is = subst (IsLaterLedger old) (sym is) (record { start = refl; flush = refl; later = (step ∷ [], refl) })

pub found_by_look : (slots : List Slot) (at : ℕ) (job : Job) (old new : LedgerValue OutcomeValue) (r : Result Kind FolderError) → job_at slots at ≡ Some job
    → slice_get slots at ≡ Some (slot.Waiting job) → IsLater old.start old.steps
    → new ≡ record old { steps = looked r job.name ∷ old.steps } → r ≡ Ok kind.File → IsFoundAt slots at new
found_by_look slots at job old new r there waits later is file = record {
  job = job;
  there = there;
  waits = waits;
  found = found_now old new job.name later (ap (λ l. l.start) is) (ap (λ l. l.steps) is ∙ ap (λ x. looked x job.name ∷ old.steps) file);
}

pub found_here : (slots : List Slot) (at : ℕ) (job : Job) (l : LedgerValue OutcomeValue) → IsFoundAt slots at l → job_at slots at ≡ Some job → HasFound l job.name
found_here slots at job l f there = subst (λ j. HasFound l j.name) (some_same f.job job (sym f.there ∙ there)) f.found

pub account_later : (b : State) (s : Bool) (read : ℕ) (bases : List (List ℕ)) (l : LedgerValue OutcomeValue) → IsAccount b s read bases → l.entries ≡ b.ledger.entries
    → l.out ≡ b.ledger.out → IsLaterLedger b.ledger l → IsAccount (record b { ledger = l }) s read bases
account_later b s read bases l is kept out later = record {
  told = told_on b.asking b.urls [] b.ledger l b.told (inl kept) later is.told;
  whole = subst AreWhole (sym kept) is.whole;
  going = λ e. later_on b read bases l (is.going e) kept later;
  out = λ e. subst (λ o. AreOut o b.slots) (sym out) (is.out e);
}

-- a URL that was taken out of its slot is put back, and waits
pub back_again : (b : State) (read : ℕ) (bases : List (List ℕ)) (at : ℕ) (job back next : Job) (free slots : List Slot) (l : LedgerValue OutcomeValue) → IsBook b read bases → job_at b.slots at ≡ Some job
    → free ≡ slice_set b.slots at slot.Free → slots ≡ slice_set free at (slot.Waiting next) → back ≡ job → next.place ≡ back.place → next.url ≡ back.url → next.name ≡ back.name
    → IsTry b.asking next.tries → l.entries ≡ b.ledger.entries → IsLaterLedger b.ledger l → IsBook (record b { slots = slots; ledger = l }) read bases
back_again b read bases at job back next free slots l is was taken put same place url name tries kept later =
    let now : slots ≡ slice_set b.slots at (slot.Waiting next) = put ∙ set_again b.slots free at slot.Free (slot.Waiting next) taken in
    let waits = again b read bases at job next (slot.Waiting next) is was refl (place ∙ ap (λ j. j.place) same) (url ∙ ap (λ j. j.url) same) (name ∙ ap (λ j. j.name) same) tries in
    let one = later_on (record b { slots = slice_set b.slots at (slot.Waiting next) }) read bases l waits kept later in
    subst (λ x. IsBook (record b { slots = x; ledger = l }) read bases) (sym now) one

-- no part is out
pub none_out_of : {W : Type 0} (was now : BookValue W) (read : ℕ) (bases : List (List ℕ)) → was ≡ now → IsAccount (state_of was) was.is_stopped read bases
    → now.is_stopped ≡ false → count_by is_taken now.slots ≡ 0 → now.ledger.out ≡ []
none_out_of {W = W} was now read bases same book going empty =
    let P : BookValue W → Type 0 = λ b. IsAccount (state_of b) b.is_stopped read bases in
    none_out now.ledger.out now.slots ((subst P same book).out going) empty

-- the URL in a slot
pub out_job : (slots : List Slot) (at number : ℕ) (job : Job) → IsOut slots at job number → job_at slots at ≡ Some job
out_job slots at number job o = sym (job_here slots at o.is o.there) ∙ o.url

pub get_set : (slots : List Slot) (i : ℕ) (old v : Slot) → slice_get slots i ≡ Some old → slice_get (slice_set slots i v) i ≡ Some v
get_set [] i old v is = absurd (cc)
get_set (s ∷ ss) zero old v is = refl
get_set (s ∷ ss) (suc i) old v is = get_set ss i old v is

-- a slot whose part has no transfer yet
pub open_is : (slots : List Slot) (at j number : ℕ) (url job : Job) → slice_get slots at ≡ Some (slot.Open url j) → IsOut slots at job number
    → slice_get slots at ≡ Some (slot.Open job number)
open_is slots at j number url job there o =
    let is : o.is ≡ slot.Open url j = slot_same o.is (slot.Open url j) (sym o.there ∙ there) in
    let same = some_same url job (subst (λ s. job_of s ≡ Some job) is o.url) in
    let n = eqb-true j number (subst (λ s. has_part number s ≡ true) is o.part) in
    there ∙ ap (λ p. Some (slot.Open p j)) same ∙ ap (λ m. Some (slot.Open job m)) n
  where
    slot_same : (s t : Slot) → Some s ≡ Some t → s ≡ t
    slot_same s t e = cc

-- a URL that comes back has no part any more
pub came_again : (number : ℕ) (old new : LedgerValue OutcomeValue) (e : NotEnded) (back : Job) → ComesBack number old new e → e ≡ not_ended.Again back
    → (new.out ≡ without number old.out) × (new.left ≡ old.left)
came_again number old new e back comes is = subst (ComesBack number old new) is comes

pub whatever : {X P : Type 0} (o : Option X) → P → IfSome o (λ _. P)
whatever None p = tt
whatever (Some x) p = p

-- where none comes back of a URL that would be tried again, its part is left
pub retried : (asking : Asking) (slots : List Slot) (at : ℕ) (c told : Code) (status said : ℕ) (delay : Option ℕ) (may_retry : Bool) (old new : LedgerValue OutcomeValue) → c ≡ told → status ≡ said
    → Delays asking slots at c status delay → may_retry ≡ is_some delay → (may_retry ≡ true → LeavesPart old new) → Delays asking slots at told said None ⊎ (◌≡◌ {A = Option ℕ} None None × LeavesPart old new)
retried asking slots at c told status said None may_retry old new same alike delays may left =
    inl (λ job there. delays job there ∙ ap (λ x. delay_of asking job.tries x status) same ∙ ap (λ x. delay_of asking job.tries told x) alike)
retried asking slots at c told status said (Some n) may_retry old new same alike delays may left = inr (refl, left may)

-- a part was made for the URL in a slot, which waits
pub account_opened : (b : State) (s : Bool) (read : ℕ) (bases : List (List ℕ)) (at n : ℕ) (l : LedgerValue OutcomeValue) (slots : List Slot) → IsAccount b s read bases → Waits b.slots at
    → IsOpened b.slots slots at n → l.entries ≡ b.ledger.entries → IsLaterLedger b.ledger l → l.out ≡ n ∷ b.ledger.out → IsAccount (record b { slots = slots; ledger = l }) s read bases
account_opened b s read bases at n l slots is waits o kept later out = record {
  told = told_on b.asking b.urls [] b.ledger l b.told (inl kept) later is.told;
  whole = subst AreWhole (sym kept) is.whole;
  going = λ e.
      let was = is.going e in
      let open_now = slot.Open o.job n in
      let one = again b read bases at o.job o.job open_now was o.there refl refl refl refl (was.pending at o.job o.there).tries in
      subst (λ x. IsBook (record b { slots = x; ledger = l }) read bases) (sym o.is) (later_on (record b { slots = slice_set b.slots at open_now }) read bases l one kept later);
  out = λ e.
      subst (λ x. AreOut l.out x) (sym o.is)
      (subst (λ x. AreOut x (slice_set b.slots at (slot.Open o.job n))) (sym out)
      (opened b.ledger.out b.slots at n (slot.Waiting waits.0) (slot.Open o.job n) (is.out e) waits.1 (λ m. refl) (λ m. refl)));
}

-- a part was removed, or is left
pub left_or : (part : List ℕ) (answer : Option FolderError) (old new : LedgerValue OutcomeValue) → new.left ≡ left_of part answer ++ old.left → (new.left ≡ old.left) ⊎ LeavesPart old new
left_or part None old new is = inl is
left_or part (Some why) old new is = inr (part, is)

-- a URL was refused, and that was reported
pub refused_now : {W : Type 0} {Q S : Type 0} (old new : BookValue W) (url : List ℕ) (r : Result Unit S) (s : Result (Option Q) S)
    → MatchResult r (λ _. s ≡ Ok None) (λ stop. s ≡ Err stop) → OnOk r (IsRefusedNow old new url)
    → IfOk s (λ asked. MatchOption asked (IsRefusedNow old new url) (λ _. TellsNone old new))
refused_now {Q = Q} {S = S} old new url (Ok u) s is told =
    let P : Result (Option Q) S → Type 0 = λ x. IfOk x (λ asked. MatchOption asked (IsRefusedNow old new url) (λ _. TellsNone old new)) in subst P (sym is) told
refused_now {Q = Q} {S = S} old new url (Err stop) s is told =
    let P : Result (Option Q) S → Type 0 = λ x. IfOk x (λ asked. MatchOption asked (IsRefusedNow old new url) (λ _. TellsNone old new)) in subst P (sym is) tt

-- too many files were open
pub limit_of : (old new : LedgerValue OutcomeValue) (why : SaveError) (part : Option (List ℕ)) → IsRefusedBy old new why part None → why ≡ unsaved.Create folder.TooManyOpen
    → IsFileLimit old new
limit_of old new why None by is = let bad : unsaved.Create folder.TooManyOpen ≡ unsaved.OutOfMemory = sym is ∙ by.0 in absurd (cc)
limit_of old new why (Some part) by is = (part, subst (λ e. AreTried old new part (refusal_of part e)) is by.1)

-- no transfer is added in the first slots
abbrev pub FirstUnadded : List Slot → ℕ → Type 0
FirstUnadded slots n = (i : ℕ) (job : Job) (ticket : Ticket) (number : ℕ) → i < n → slice_get slots i ≡ Some (slot.Added job ticket number) → ⊥

is_some_slot : (s t : Slot) → Some s ≡ Some t → s ≡ t
is_some_slot s t e = cc

pub placed : (slots : List Slot) (n : ℕ) (s : Slot) → n < length slots → s ≡ get_or slots n s → slice_get slots n ≡ Some s
placed [] n s within is = absurd (omega (arith, within))
placed (t ∷ ss) zero s within is = ap Some (sym is)
placed (t ∷ ss) (suc n) s within is = placed ss n s (omega (arith, within)) is

pub unadded_more : (slots : List Slot) (n : ℕ) (s : Slot) → slice_get slots n ≡ Some s → is_unadded s ≡ true → FirstUnadded slots n → FirstUnadded slots (n + 1)
unadded_more slots n s there is before i job ticket number lt has =
    elim (same_or_other i n) [
      | inl e ↦ let same = is_some_slot s (slot.Added job ticket number) (sym there ∙ ap (slice_get slots) (sym e) ∙ has) in
          let bad : false ≡ true = ap is_unadded (sym same) ∙ is in cc
      | inr other ↦ before i job ticket number (omega (arith, lt, other)) has
    ]

pub some_added : (slots : List Slot) (n : ℕ) (s : Slot) → slice_get slots n ≡ Some s → is_unadded s ≡ false → ¬ (HasNoneAdded slots)
some_added slots n slot.Free there is none = let bad : true ≡ false = is in cc
some_added slots n (slot.Waiting job) there is none = let bad : true ≡ false = is in cc
some_added slots n (slot.Open job number) there is none = let bad : true ≡ false = is in cc
some_added slots n (slot.Added job ticket number) there is none = none n job ticket number there

pub slot_within : (slots : List Slot) (i : ℕ) (s : Slot) → slice_get slots i ≡ Some s → i < length slots
slot_within [] i s is = absurd (cc)
slot_within (t ∷ ss) zero s is = omega arith
slot_within (t ∷ ss) (suc i) s is = let h = slot_within ss i s is in omega (arith, h)

-- what is reported where no part could be made
pub unmade_is : (url : List ℕ) (tries : ℕ) (t : Transferred) (why : SaveError) (part : Option (List ℕ)) (left : Option FolderError) (e : EndValue)
    → e ≡ failed_end url (unsaved_code why) t (Some (unsaved_text why part left)) → t ≡ record { status = 0; length = 0; framing = None; hops = 0; tries = tries } → left ≡ None
    → e ≡ unmade_end url tries why part
unmade_is url tries t why part left e is untransferred gone =
    let none : Transferred = record { status = 0; length = 0; framing = None; hops = 0; tries = tries } in
    is ∙ ap (λ x. failed_end url (unsaved_code why) x (Some (unsaved_text why part left))) untransferred
    ∙ ap (λ x. failed_end url (unsaved_code why) none (Some (unsaved_text why part x))) gone

pub is_none_so : {X : Type 0} (o : Option X) → is_some o ≡ false → None ≡ o
is_none_so None is = refl
is_none_so (Some x) is = absurd (cc)

-- the first slots are taken
abbrev pub FirstTaken : List Slot → ℕ → Type 0
FirstTaken slots n = (i : ℕ) → i < n → slice_get slots i ≢ Some slot.Free

pub free_of : (s : Slot) → is_taken s ≡ false → s ≡ slot.Free
free_of slot.Free is = refl
free_of (slot.Waiting job) is = let bad : true ≡ false = is in cc
free_of (slot.Open job number) is = let bad : true ≡ false = is in cc
free_of (slot.Added job ticket number) is = let bad : true ≡ false = is in cc

pub taken_more : (slots : List Slot) (n : ℕ) (s : Slot) → slice_get slots n ≡ Some s → is_taken s ≡ true → FirstTaken slots n → FirstTaken slots (n + 1)
taken_more slots n s there is before i lt has =
    elim (same_or_other i n) [
      | inl e ↦ let same = is_some_slot s slot.Free (sym there ∙ ap (slice_get slots) (sym e) ∙ has) in
          let bad : false ≡ true = ap is_taken (sym same) ∙ is in cc
      | inr other ↦ before i (omega (arith, lt, other)) has
    ]

some_job : (s : Slot) → is_taken s ≡ true → (p : Job) × (job_of s ≡ Some p)
some_job slot.Free is = let bad : false ≡ true = is in absurd (cc)
some_job (slot.Waiting job) is = (job, refl)
some_job (slot.Open job number) is = (job, refl)
some_job (slot.Added job ticket number) is = (job, refl)

pub some_taken : (slots : List Slot) (n : ℕ) (s : Slot) → slice_get slots n ≡ Some s → is_taken s ≡ true → count_by is_taken slots ≡ 0 → ⊥
some_taken slots n s there is zero_taken = let p = some_job s is in none slots n p.0 zero_taken (sym (job_here slots n s there) ∙ p.1)

none_of : (s : Slot) → is_taken s ≡ false → job_of s ≡ None
none_of s is = ap job_of (free_of s is)

pub none_more : (slots : List Slot) (n : ℕ) (s : Slot) → slice_get slots n ≡ Some s → is_taken s ≡ false → ((i : ℕ) (p : Job) → i < n → job_at slots i ≡ Some p → ⊥)
    → (i : ℕ) (p : Job) → i < n + 1 → job_at slots i ≡ Some p → ⊥
none_more slots n s there is before i p lt has =
    elim (same_or_other i n) [
      | inl e ↦ let bad : None ≡ Some p = sym (none_of s is) ∙ job_here slots n s there ∙ ap (job_at slots) (sym e) ∙ has in cc
      | inr other ↦ before i p (omega (arith, lt, other)) has
    ]

waiting_same : (p q : Job) → Some (slot.Waiting p) ≡ Some (slot.Waiting q) → p ≡ q
waiting_same p q is = cc

-- a look that found no file
pub looks_in_vain : (slots : List Slot) (at : ℕ) (p : Job) (answer : Result Kind FolderError) (old new : LedgerValue OutcomeValue) → slice_get slots at ≡ Some (slot.Waiting p)
    → new ≡ record old { steps = looked answer p.name ∷ old.steps } → answer ≢ Ok kind.File → LooksInVain slots at old new
looks_in_vain slots at p answer old new waits is vain job has =
    (answer, ap (λ l. l.steps) is ∙ ap (λ j. looked answer j.name ∷ old.steps) (waiting_same p job (sym waits ∙ has)), vain)

pub kind_same : (k : Kind) → ◌≡◌ {A = Result Kind FolderError} (Ok k) (Ok kind.File) → k ≡ kind.File
kind_same k is = cc

pub no_kind : (why : FolderError) → ◌≡◌ {A = Result Kind FolderError} (Err why) (Ok kind.File) → ⊥
no_kind why is = cc
