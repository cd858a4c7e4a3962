-- A book, one URL further, and one end further.
use Rattle.std.proofs.Common.{◌≡◌, ◌≢◌, ◌∙◌, refl, ap, sym, subst, ℕ, ◌+◌, ◌<◌, ◌≤◌, ◌^◌, suc, zero, List, [], ◌∷◌, ◌++◌, map, take, length, length-append, append_assoc, append-nil, Bool, true, false, cond, inl, inr, arith}
use Rattle.std.specs.Prelude.{◌⊎◌, if◌then◌else◌, Option, Some, None, IfSome, SomeIff, Ok, Err, count_by, slice_get, slice_set}
use Rattle.std.specs.List.{Contains, AllByRecursion}
use Rattle.std.proofs.lemmas.List.{take_at}
use Rattle.std.proofs.lemmas.List.Elements.{Contains-append_left, Contains-append_right, Contains-push}
use Rattle.std.proofs.lemmas.List.Sums.{sum_by_push}
use Rattle.mx_request.specs.declared.error.RequestError.{RequestError}
use Rattle.mx_chain.specs.Outcomes.{OutcomeValue}
use Rattle.mx_folder.specs.Names.{base_name, count_of, names_of, numbered}
use Rattle.mx_folder.specs.Laws.{NamesAreDistinct}
use Rattle.mx_folder.proofs.Apart.{distinct}
use Rattle.mx_folder.specs.declared.steps.Kind.TheVariants as kind
use Rattle.mx_folder.specs.declared.steps.Step.{Step}
use Rattle.mx_folder.specs.declared.steps.Step.TheVariants as steps
use Rattle.mx_folder.specs.Moments.{IsLater}
use Rattle.mx_folder.specs.Steps.{refusals}
use Rattle.mx_folder.specs.declared.steps.FolderCall.TheVariants as call
use Rattle.mx_save.specs.Ledgers.{LedgerValue, IsFresh}
use Rattle.mx_save.specs.Tries.{removal_of}
use Rattle.mx_save_rules.specs.Ends.{EndValue, IsEnd}
use Rattle.mx_save_rules.specs.declared.end.Verdict.{Verdict}
use Rattle.mx_save_rules.specs.declared.end.Verdict.TheVariants as verdict
use Rattle.mx_save_rules.specs.declared.asking.Asking.{Asking}
use Rattle.mx_save_book.specs.declared.job.Job.{Job}
use Rattle.mx_save_book.specs.declared.job.Slot.{Slot}
use Rattle.mx_save_book.specs.declared.job.Slot.TheVariants as slot
use Rattle.mx_save_book.proofs.Calls.{calls_later}
use Rattle.mx_save_book.specs.Jobs.{told_refusals, AreNamed, AreWhole, CanAsk, GrowsBy, GrowsFor, HasEnded, HasFound, HoldsBy, HoldsOf, IsAccount, IsBook, IsFailedBy, IsFailedEnd, IsFailedTransfer, IsLaterLedger, IsLeftEnd, IsUnmadeEnd, IsUnsavedEnd, AreOut, IsNameAt, IsTold, IsTry, MayName, Pends, Refuses, Saves, State, is_saved, is_taken, is_told_saved, job_at, job_of, refused_end}
use Rattle.mx_save_book.specs.Lines.{PrintedLineValue}
use Rattle.mx_save_book.specs.Books.{HaveEnded}
use Rattle.mx_save_book.proofs.Names.{all_given_more, fresh_on, given_more, given_new, given_on, is_fresh, is_new, saved_on, whole_on}
use Rattle.mx_save_book.proofs.Slots.{as_many, cases, fresh_count, fresh_none, inside, none, one_less, one_more, stays, there}

-- a sum that fits
pub next_fits : (P : ℕ → Type 0) (n : ℕ) (r : Option ℕ) → SomeIff r (P n) n → IfSome r (λ m. (m ≡ n) × P m)
next_fits P n None is = tt
next_fits P n (Some m) is = (is.1, subst P (sym is.1) is.0)

-- lists that grow at their ends
get_more : {X : Type 0} (xs ys : List X) (i : ℕ) (x : X) → slice_get xs i ≡ Some x → slice_get (xs ++ ys) i ≡ Some x
get_more [] ys i x is = absurd (cc)
get_more (y ∷ xs) ys zero x is = is
get_more (y ∷ xs) ys (suc i) x is = get_more xs ys i x is

take_front : {X : Type 0} (xs ys : List X) (i : ℕ) (x : X) → slice_get xs i ≡ Some x → take i (xs ++ ys) ≡ take i xs
take_front [] ys i x is = absurd (cc)
take_front (y ∷ xs) ys zero x is = refl
take_front (y ∷ xs) ys (suc i) x is = ap (λ l. y ∷ l) (take_front xs ys i x is)

if_some : {X : Type 0} (P Q : X → Type 0) (o : Option X) → ((x : X) → P x → Q x) → IfSome o P → IfSome o Q
if_some P Q None f h = tt
if_some P Q (Some x) f h = f x h

pub get_last : {X : Type 0} (xs : List X) (x : X) → slice_get (xs ++ x ∷ []) (length xs) ≡ Some x
get_last [] x = refl
get_last (y ∷ xs) x = get_last xs x

all_push : {X : Type 0} (P : X → Type 0) (xs : List X) (x : X) → AllByRecursion P xs → P x → AllByRecursion P (xs ++ x ∷ [])
all_push P [] x all p = (p, tt)
all_push P (y ∷ xs) x all p = (all.0, all_push P xs x all.1 p)

all_weaker : {X : Type 0} (P Q : X → Type 0) (xs : List X) → ((x : X) → P x → Q x) → AllByRecursion P xs → AllByRecursion Q xs
all_weaker P Q [] w all = tt
all_weaker P Q (x ∷ xs) w all = (w x all.0, all_weaker P Q xs w all.1)

push_length : {X : Type 0} (xs : List X) (x : X) → length (xs ++ x ∷ []) ≡ length xs + 1
push_length xs x = length-append xs (x ∷ [])

-- a place of one URL more is an earlier one, or the last
place_cases : (n m : ℕ) → m < n + 1 → (m < n) ⊎ (m ≡ n)
place_cases zero zero lt = inr refl
place_cases zero (suc m) lt = absurd (omega (arith, lt))
place_cases (suc n) zero lt = inl (omega arith)
place_cases (suc n) (suc m) lt =
    elim (place_cases n m (omega (arith, lt))) [
      | inl h ↦ inl (omega (arith, h))
      | inr h ↦ inr (ap suc h)
    ]

-- the URLs that take a name
named_push : (asking : Asking) (urls named : List (List ℕ)) (url : List ℕ) → AreNamed asking urls named → CanAsk asking url → AreNamed asking (urls ++ url ∷ []) (named ++ url ∷ [])
named_push asking [] named url is can = inl (can, [], ap (λ l. l ++ url ∷ []) is, refl)
named_push asking (u ∷ urls) named url is can =
    elim is [
      | inl h ↦ inl (h.0, h.1 ++ url ∷ [], ap (λ l. l ++ url ∷ []) h.2, named_push asking urls h.1 url h.3 can)
      | inr h ↦ inr (h.0, named_push asking urls named url h.1 can)
    ]

named_past : (asking : Asking) (urls named : List (List ℕ)) (url : List ℕ) → AreNamed asking urls named → ¬ (CanAsk asking url) → AreNamed asking (urls ++ url ∷ []) named
named_past asking [] named url is cant = inr (cant, is)
named_past asking (u ∷ urls) named url is cant =
    elim is [
      | inl h ↦ inl (h.0, h.1, h.2, named_past asking urls h.1 url h.3 cant)
      | inr h ↦ inr (h.0, named_past asking urls named url h.1 cant)
    ]

-- none can be made of one that is refused
pub refuses_all : (asking : Asking) (url : List ℕ) (why : RequestError) → Refuses asking url why → ¬ (CanAsk asking url)
refuses_all asking url why refuses can =
    elim refuses [
      | inl is ↦ let bad : Err why ≡ Ok can.request = sym is ∙ can.asks in cc
      | inr is ↦ is.0 can.text
    ]

-- the name of a URL, where more were read
name_more : (asking : Asking) (urls more : List (List ℕ)) (place : ℕ) (name : List ℕ) → IsNameAt asking urls place name → IsNameAt asking (urls ++ more) place name
name_more asking urls more place name n = record {
  url = n.url;
  at = get_more urls more place n.url n.at;
  before = n.before;
  named = subst (λ l. AreNamed asking l n.before) (sym (take_front urls more place n.url n.at)) n.named;
  is = n.is;
}

name_told : (asking : Asking) (urls : List (List ℕ)) (place : ℕ) (name : List ℕ) (file : Option (List ℕ)) → MayName name file → IsNameAt asking urls place name
    → IfSome file (IsNameAt asking urls place)
name_told asking urls place name None may is = tt
name_told asking urls place name (Some n) may is = subst (IsNameAt asking urls place) (sym may) is

-- what was done to a folder later
refusals_step : (step : Step) (old : List Step) → refusals old ≤ refusals (step ∷ old)
refusals_step (steps.Created part) old = omega arith
refusals_step (steps.Placed part final bytes flushed) old = omega arith
refusals_step (steps.Removed part) old = omega arith
refusals_step (steps.Looked name found) old = omega arith
refusals_step steps.FolderFlushed old = omega arith
refusals_step (steps.Refused asked name why) old = omega arith

refusals_more : (more old : List Step) → refusals old ≤ refusals (more ++ old)
refusals_more [] old = omega arith
refusals_more (step ∷ more) old = omega (arith, refusals_more more old, refusals_step step (more ++ old))

pub refusals_later : (old new : List Step) → IsLater old new → refusals old ≤ refusals new
refusals_later old new later = omega (arith, refusals_more later.0 old, ap refusals later.1)

pub same_ledger : (l : LedgerValue OutcomeValue) → IsLaterLedger l l
same_ledger l = record { start = refl; flush = refl; later = ([], refl) }

found_on : (old new : LedgerValue OutcomeValue) (name : List ℕ) → IsLaterLedger old new → HasFound old name → HasFound new name
found_on old new name later h = record {
  since = later.later.0 ++ h.since;
  steps = later.later.1 ∙ ap (λ l. later.later.0 ++ l) h.steps ∙ sym (append_assoc later.later.0 h.since old.start)
      ∙ ap (λ l. (later.later.0 ++ h.since) ++ l) (sym later.start);
  found = Contains-append_right later.later.0 h.since (steps.Looked name kind.File) h.found;
}

-- a look that found a file is the newest step
pub found_now : (old new : LedgerValue OutcomeValue) (name : List ℕ) → IsLater old.start old.steps → new.start ≡ old.start → new.steps ≡ steps.Looked name kind.File ∷ old.steps
    → HasFound new name
found_now old new name later start is = record {
  since = steps.Looked name kind.File ∷ later.0;
  steps = is ∙ ap (λ l. steps.Looked name kind.File ∷ l) later.1 ∙ ap (λ l. steps.Looked name kind.File ∷ (later.0 ++ l)) (sym start);
  found = (0, omega arith, refl);
}

-- what was reported holds when more is saved, and more URLs were read
transfer_on : (asking : Asking) (old new : LedgerValue OutcomeValue) (o : OutcomeValue) (e : EndValue) → IsLaterLedger old new → IsFailedTransfer asking old o e → IsFailedTransfer asking new o e
transfer_on asking old new o e later t = record {
  is = t.is;
  asked = t.asked;
  decided = t.decided;
  report = t.report;
  text = t.text;
  said = t.said;
  part = t.part;
  left = t.left;
  words = t.words;
  calls = calls_later (removal_of t.part t.left) old new later.start later.later t.calls;
}

refused_on : (old new : LedgerValue OutcomeValue) → IsLaterLedger old new → refusals old.start < refusals old.steps → refusals new.start < refusals new.steps
refused_on old new later was = omega (arith, was, refusals_later old.steps new.steps later.later, ap refusals later.start)

unsaved_on : (asking : Asking) (old new : LedgerValue OutcomeValue) (o : OutcomeValue) (e : EndValue) → IsLaterLedger old new → IsUnsavedEnd asking old o e → IsUnsavedEnd asking new o e
unsaved_on asking old new o e later u = record {
  is = u.is;
  asked = u.asked;
  report = u.report;
  why = u.why;
  known = u.known;
  cause = u.cause;
  part = u.part;
  left = u.left;
  code = u.code;
  words = u.words;
  refused = refused_on old new later u.refused;
  calls = calls_later (told_refusals u.why (Some u.part) u.left) old new later.start later.later u.calls;
}

unmade_on : (asking : Asking) (old new : LedgerValue OutcomeValue) (e : EndValue) → IsLaterLedger old new → IsUnmadeEnd asking old e → IsUnmadeEnd asking new e
unmade_on asking old new e later u = record {
  can = u.can;
  why = u.why;
  part = u.part;
  code = u.code;
  words = u.words;
  refused = λ known. refused_on old new later (u.refused known);
  calls = calls_later (told_refusals u.why u.part None) old new later.start later.later u.calls;
  untransferred = u.untransferred;
  tries = u.tries;
}

left_on : (asking : Asking) (old new : LedgerValue OutcomeValue) (o : OutcomeValue) (e : EndValue) → IsLaterLedger old new → IsLeftEnd asking old o e → IsLeftEnd asking new o e
left_on asking old new o e later l = record {
  is = l.is;
  asked = l.asked;
  cause = l.cause;
  report = l.report;
  text = l.text;
  said = l.said;
  part = l.part;
  why = l.why;
  code = l.code;
  words = l.words;
  calls = calls_later (steps.Refused call.Remove l.part l.why ∷ []) old new later.start later.later l.calls;
}

by_on : (asking : Asking) (old new : LedgerValue OutcomeValue) (o : OutcomeValue) (e : EndValue) → IsLaterLedger old new → IsFailedBy asking old o e → IsFailedBy asking new o e
by_on asking old new o e later h =
    elim h [
      | inl transfer ↦ inl (transfer_on asking old new o e later transfer)
      | inr other ↦ elim other [
        | inl u ↦ inr (inl (unsaved_on asking old new o e later u))
        | inr l ↦ inr (inr (left_on asking old new o e later l))
      ]
    ]

failed_on : (asking : Asking) (old new : LedgerValue OutcomeValue) (e : EndValue) → IsLaterLedger old new → IsFailedEnd asking old e → IsFailedEnd asking new e
failed_on asking old new e later h =
    elim h [
      | inl refused ↦ inl refused
      | inr other ↦ elim other [
        | inl u ↦ inr (inl (unmade_on asking old new e later u))
        | inr by ↦ inr (inr (by.0, by_on asking old new by.0 e later by.1))
      ]
    ]

-- what holds of an outcome holds
pub holds_by : (asking : Asking) (l : LedgerValue OutcomeValue) (o : OutcomeValue) (e : EndValue) (v : Verdict) → HoldsBy asking l o e v → HoldsOf asking l e v
holds_by asking l o e verdict.Saved h = (o, h)
holds_by asking l o e verdict.Done h = (o, h)
holds_by asking l o e verdict.Skipped h = absurd h
holds_by asking l o e verdict.Failed h = inr (inr (o, h))

holds_on : (asking : Asking) (name : List ℕ) (old new : LedgerValue OutcomeValue) (e : EndValue) (v : Verdict) → GrowsBy name old.entries new.entries → IsLaterLedger old new
    → HoldsOf asking old e v → HoldsOf asking new e v
holds_on asking name old new e verdict.Saved grows later h = (
  h.0,
  record {
    name = h.1.name;
    file = h.1.file;
    saved = saved_on name old.entries new.entries (h.1.name, h.0) grows h.1.saved;
    whole = h.1.whole;
    asked = h.1.asked;
    decided = h.1.decided;
    size = h.1.size;
    report = h.1.report;
  },
)
holds_on asking name old new e verdict.Done grows later h = h
holds_on asking name old new e verdict.Skipped grows later h =
    record { asked = h.asked; name = h.name; file = h.file; found = found_on old new h.name later h.found; untried = h.untried }
holds_on asking name old new e verdict.Failed grows later h = failed_on asking old new e later h

pub told_on : (asking : Asking) (urls : List (List ℕ)) (name : List ℕ) (old new : LedgerValue OutcomeValue) (ts : List PrintedLineValue) → GrowsBy name old.entries new.entries
    → IsLaterLedger old new → AllByRecursion (IsTold asking urls old) ts → AllByRecursion (IsTold asking urls new) ts
told_on asking urls name old new ts grows later all =
    all_weaker (IsTold asking urls old) (IsTold asking urls new) ts
    (λ t h. record { url = h.url; name = h.name; end = h.end; holds = holds_on asking name old new t.end t.end.verdict grows later h.holds }) all

told_more : (asking : Asking) (urls more : List (List ℕ)) (l : LedgerValue OutcomeValue) (ts : List PrintedLineValue)
    → AllByRecursion (IsTold asking urls l) ts → AllByRecursion (IsTold asking (urls ++ more) l) ts
told_more asking urls more l ts all =
    all_weaker (IsTold asking urls l) (IsTold asking (urls ++ more) l) ts
    (λ t h. record {
      url = get_more urls more t.place t.end.url h.url;
      name = if_some (IsNameAt asking urls t.place) (IsNameAt asking (urls ++ more) t.place) t.end.file (λ n is. name_more asking urls more t.place n is) h.name;
      end = h.end;
      holds = h.holds;
    }) all

-- a run that has stopped
pub stopped : (b now : State) (s : Bool) (n m : ℕ) (bases others more : List (List ℕ)) (name : List ℕ) → IsAccount b s n bases → now.asking ≡ b.asking → now.urls ≡ b.urls ++ more
    → now.told ≡ b.told → GrowsBy name b.ledger.entries now.ledger.entries → IsLaterLedger b.ledger now.ledger → IsAccount now true m others
stopped b now s n m bases others more name is asking urls told grows later = record {
  told =
      let one = told_more b.asking b.urls more now.ledger b.told (told_on b.asking b.urls name b.ledger now.ledger b.told grows later is.told) in
      subst (λ k. AllByRecursion (IsTold k now.urls now.ledger) now.told) (sym asking)
      (subst (λ l. AllByRecursion (IsTold b.asking l now.ledger) now.told) (sym urls)
      (subst (AllByRecursion (IsTold b.asking (b.urls ++ more) now.ledger)) (sym told) one));
  whole = whole_on name b.ledger.entries now.ledger.entries is.whole grows;
  going = λ e. absurd (cc);
  out = λ e. absurd (cc);
}

-- with the URLs, or the folder, as they were
pub stopped_more : (b now : State) (s : Bool) (n m : ℕ) (bases others more : List (List ℕ)) → IsAccount b s n bases → now.asking ≡ b.asking → now.urls ≡ b.urls ++ more
    → now.told ≡ b.told → now.ledger ≡ b.ledger → IsAccount now true m others
stopped_more b now s n m bases others more is asking urls told ledger =
    stopped b now s n m bases others more [] is asking urls told (inl (ap (λ l. l.entries) ledger))
    (subst (IsLaterLedger b.ledger) (sym ledger) (same_ledger b.ledger))

pub stopped_later : (b now : State) (s : Bool) (n m : ℕ) (bases others : List (List ℕ)) (name : List ℕ) → IsAccount b s n bases → now.asking ≡ b.asking → now.urls ≡ b.urls
    → now.told ≡ b.told → GrowsBy name b.ledger.entries now.ledger.entries → IsLaterLedger b.ledger now.ledger → IsAccount now true m others
stopped_later b now s n m bases others name is asking urls told grows later =
    stopped b now s n m bases others [] name is asking (urls ∙ sym (append-nil b.urls)) told grows later

-- where all holds, what was reported does
pub account : (b : State) (s : Bool) (n : ℕ) (bases : List (List ℕ)) → AreWhole b.ledger.entries → IsBook b n bases → AreOut b.ledger.out b.slots → IsAccount b s n bases
account b s n bases whole is out = record { told = is.told; whole = whole; going = λ e. is; out = λ e. out }

ended_more : (ts : List PrintedLineValue) (t : PrintedLineValue) (place : ℕ) → HasEnded ts place → HasEnded (ts ++ t ∷ []) place
ended_more ts t place h = (h.0, Contains-append_left ts (t ∷ []) h.0 h.1, h.2)

ended_now : (ts : List PrintedLineValue) (t : PrintedLineValue) (place : ℕ) → t.place ≡ place → HasEnded (ts ++ t ∷ []) place
ended_now ts t place is = (t, Contains-push ts t, is)

-- how many were reported as saved, one end further
abbrev weigh : Bool → ℕ
weigh b = cond b 1 0

count_push : (ts : List PrintedLineValue) (t : PrintedLineValue) → count_by is_told_saved (ts ++ t ∷ []) ≡ count_by is_told_saved ts + weigh (is_told_saved t)
count_push ts t = sum_by_push (λ x. weigh (is_told_saved x)) ts t

unsaved_more : (ts : List PrintedLineValue) (t : PrintedLineValue) → is_told_saved t ≡ false → count_by is_told_saved (ts ++ t ∷ []) ≡ count_by is_told_saved ts
unsaved_more ts t is = omega (arith, count_push ts t, ap weigh is)

saved_more : (ts : List PrintedLineValue) (t : PrintedLineValue) → is_told_saved t ≡ true → count_by is_told_saved (ts ++ t ∷ []) ≡ count_by is_told_saved ts + 1
saved_more ts t is = omega (arith, count_push ts t, ap weigh is)

owed_on : (name : List ℕ) (old new : Saves) (ts : List PrintedLineValue) (t : PrintedLineValue) → GrowsFor name t.end.verdict old new → length old ≡ count_by is_told_saved ts
    → length new ≡ count_by is_told_saved (ts ++ t ∷ [])
owed_on name old new ts t grows owed =
    elim grows [
      | inl other ↦ omega (arith, owed, ap length other.1, unsaved_more ts t other.0)
      | inr one ↦ omega (arith, owed, ap length one.3, saved_more ts t one.0)
    ]

pub grows_by : (name : List ℕ) (v : Verdict) (old new : Saves) → GrowsFor name v old new → GrowsBy name old new
grows_by name v old new grows =
    elim grows [
      | inl other ↦ inl other.1
      | inr one ↦ inr (one.1, one.2, one.3)
    ]

-- a run begins
pub begun : (b : State) (names : List (List ℕ)) → names ≡ [] → b.urls ≡ [] → b.named ≡ [] → AllByRecursion (λ s. s ≡ slot.Free) b.slots → b.told ≡ [] → b.ledger.entries ≡ [] → IsBook b 0 names
begun b names empty urls named slots told_none saves = record {
  read = ap length (sym urls);
  bases = empty ∙ ap (map base_name) (sym named);
  named = subst (λ l. AreNamed b.asking l b.named) (sym urls) named;
  fewer = omega (arith, ap length named);
  pending = λ i job is. absurd (fresh_none b.slots slots i job is);
  apart = λ i j p q is also same. absurd (fresh_none b.slots slots i p is);
  given = subst (AllByRecursion (λ e. Contains (names_of b.named) e.0)) (sym saves) tt;
  told = subst (AllByRecursion (IsTold b.asking b.urls b.ledger)) (sym told_none) tt;
  each = λ place lt. absurd (omega (arith, lt, ap length urls));
  count = omega (arith, ap length urls, ap length told_none, fresh_count b.slots slots);
  owed = ap length saves ∙ sym (ap (count_by is_told_saved) told_none);
}

-- a URL that has no end, where more were read
pends_more : (asking : Asking) (urls more named : List (List ℕ)) (saves : Saves) (job : Job) → Pends asking urls named saves job → Pends asking (urls ++ more) named saves job
pends_more asking urls more named saves job p = record {
  url = get_more urls more job.place job.url.items p.url;
  asks = p.asks;
  name = name_more asking urls more job.place job.name p.name;
  given = p.given;
  fresh = p.fresh;
  tries = p.tries;
}

-- a URL was refused
pub refused : (b : State) (read : ℕ) (bases : List (List ℕ)) (url : List ℕ) (why : RequestError) (e : EndValue) (ts : List PrintedLineValue) → IsBook b read bases
    → ts ≡ b.told ++ record { place = read; end = e } ∷ [] → IsEnd e → e ≡ refused_end url why → Refuses b.asking url why
    → IsBook (record b { urls = b.urls ++ url ∷ []; told = ts }) (read + 1) bases
refused b read bases url why e ts is more end same refuses =
    let t : PrintedLineValue = record { place = read; end = e } in
    subst (λ l. IsBook (record b { urls = b.urls ++ url ∷ []; told = l }) (read + 1) bases) (sym more) (record {
      read = omega (arith, is.read, push_length b.urls url);
      bases = is.bases;
      named = named_past b.asking b.urls b.named url is.named (refuses_all b.asking url why refuses);
      fewer = omega (arith, is.fewer, push_length b.urls url);
      pending = λ i job at. pends_more b.asking b.urls (url ∷ []) b.named b.ledger.entries job (is.pending i job at);
      apart = is.apart;
      given = is.given;
      told = all_push (IsTold b.asking (b.urls ++ url ∷ []) b.ledger) b.told t (told_more b.asking b.urls (url ∷ []) b.ledger b.told is.told)
          (record {
            url = ap (slice_get (b.urls ++ url ∷ [])) is.read ∙ get_last b.urls url ∙ ap (λ x. Some x.url) (sym same);
            name = subst (λ x. IfSome x.file (IsNameAt b.asking (b.urls ++ url ∷ []) read)) (sym same) tt;
            end = end;
            holds = subst (λ x. HoldsOf b.asking b.ledger x x.verdict) (sym same)
                (inl (record { why = why; refuses = refuses; code = refl; words = refl; untried = (refl, refl, refl, refl) }));
          });
      each = λ place lt. elim (place_cases (length b.urls) place (omega (arith, lt, push_length b.urls url))) [
        | inl before ↦ elim (is.each place before) [
          | inl p ↦ inl p
          | inr h ↦ inr (ended_more b.told t place h)
        ]
        | inr last ↦ inr (ended_now b.told t place (is.read ∙ sym last))
      ];
      count = omega (arith, is.count, push_length b.urls url, push_length b.told t);
      owed = is.owed ∙ sym (unsaved_more b.told t (ap (λ x. is_saved x.verdict) same));
    })

pub same_or_other : (i j : ℕ) → (i ≡ j) ⊎ (i ≢ j)
same_or_other zero zero = inl refl
same_or_other zero (suc j) = inr (λ e. omega (arith, e))
same_or_other (suc i) zero = inr (λ e. omega (arith, e))
same_or_other (suc i) (suc j) =
    elim (same_or_other i j) [
      | inl e ↦ inl (ap suc e)
      | inr n ↦ inr (λ e. n (omega (arith, e)))
    ]

pub some_same : (p q : Job) → Some p ≡ Some q → p ≡ q
some_same p q is = cc

map_push : (urls : List (List ℕ)) (url : List ℕ) → map base_name (urls ++ url ∷ []) ≡ map base_name urls ++ base_name url ∷ []
map_push [] url = refl
map_push (u ∷ urls) url = ap (λ l. base_name u ∷ l) (map_push urls url)

not_free : (slots : List Slot) (at : ℕ) (p : Job) → slice_get slots at ≡ Some slot.Free → job_at slots at ≡ Some p → ⊥
not_free [] at p free is = absurd (cc)
not_free (s ∷ ss) zero p free is = let same : s ≡ slot.Free = cc in let bad : None ≡ Some p = ap job_of (sym same) ∙ is in cc
not_free (s ∷ ss) (suc i) p free is = not_free ss i p free is

-- a URL is in a slot that was free
pub stood : (b : State) (read : ℕ) (bases : List (List ℕ)) (at : ℕ) (job : Job) → IsBook b read bases → NamesAreDistinct → read + 1 < 2 ^ 64
    → CanAsk b.asking job.url.items → slice_get b.slots at ≡ Some slot.Free → job.place ≡ read → job.name ≡ numbered (base_name job.url.items) (count_of bases (base_name job.url.items)) → job.tries ≡ 1
    → IsBook (record b { urls = b.urls ++ job.url.items ∷ []; named = b.named ++ job.url.items ∷ []; slots = slice_set b.slots at (slot.Waiting job) })
    (read + 1) (bases ++ base_name job.url.items ∷ [])
stood b read bases at job is law few asks free place name first =
    let url = job.url.items in
    let named : job.name ≡ numbered (base_name url) (count_of (map base_name b.named) (base_name url)) = name ∙ ap (λ l. numbered (base_name url) (count_of l (base_name url))) is.bases in
    let fewer : length (b.named ++ url ∷ []) < 2 ^ 64 = omega (arith, push_length b.named url, is.fewer, is.read, few) in
    let apart_from = is_new law b.named url job.name in
    let own : IsNameAt b.asking (b.urls ++ url ∷ []) job.place job.name = record {
      url = url;
      at = ap (slice_get (b.urls ++ url ∷ [])) (place ∙ is.read) ∙ get_last b.urls url;
      before = b.named;
      named = subst (λ l. AreNamed b.asking l b.named) (sym (take_at b.urls (url ∷ []) job.place (sym (place ∙ is.read)))) is.named;
      is = named;
    } in
    let once : IsTry b.asking job.tries = (omega (arith, first), omega (arith, first)) in
    let fresh = is_fresh (names_of b.named) job.name b.ledger.entries (λ other has. apart_from other fewer named has) is.given in
    record {
      read = omega (arith, is.read, push_length b.urls url);
      bases = ap (λ l. l ++ base_name url ∷ []) is.bases ∙ sym (map_push b.named url);
      named = named_push b.asking b.urls b.named url is.named asks;
      fewer = omega (arith, is.fewer, push_length b.urls url, push_length b.named url);
      pending = λ i p at_i. elim (cases b.slots at i (slot.Waiting job) p at_i) [
        | inl new ↦ subst (Pends b.asking (b.urls ++ url ∷ []) (b.named ++ url ∷ []) b.ledger.entries) (some_same job p new.1)
            (record { url = own.at; asks = asks; name = own; given = given_new b.named url job.name named; fresh = fresh; tries = once })
        | inr old ↦ let h = pends_more b.asking b.urls (url ∷ []) b.named b.ledger.entries p (is.pending i p old.1) in
            record { url = h.url; asks = h.asks; name = h.name; given = given_more b.named url p.name h.given; fresh = h.fresh; tries = h.tries }
      ];
      apart = λ i j p q at_i at_j same. elim (cases b.slots at i (slot.Waiting job) p at_i) [
        | inl one ↦ elim (cases b.slots at j (slot.Waiting job) q at_j) [
          | inl two ↦ one.0 ∙ sym two.0
          | inr two ↦ absurd (apart_from q.name fewer named (is.pending j q two.1).given (ap (λ x. x.name) (some_same job p one.1) ∙ same))
        ]
        | inr one ↦ elim (cases b.slots at j (slot.Waiting job) q at_j) [
          | inl two ↦ absurd (apart_from p.name fewer named (is.pending i p one.1).given (ap (λ x. x.name) (some_same job q two.1) ∙ sym same))
          | inr two ↦ is.apart i j p q one.1 two.1 same
        ]
      ];
      given = all_given_more b.named url b.ledger.entries is.given;
      told = told_more b.asking b.urls (url ∷ []) b.ledger b.told is.told;
      each = λ p lt. elim (place_cases (length b.urls) p (omega (arith, lt, push_length b.urls url))) [
        | inl before ↦ elim (is.each p before) [
          | inl h ↦ inl (h.0, h.1, stays b.slots at h.0 (slot.Waiting job) (λ e. not_free b.slots at h.1 free (ap (job_at b.slots) (sym e) ∙ h.2)) ∙ h.2, h.3)
          | inr h ↦ inr h
        ]
        | inr last ↦ inl (at, job, there b.slots at slot.Free (slot.Waiting job) free, place ∙ is.read ∙ sym last)
      ];
      count = omega (arith, is.count, push_length b.urls url, one_more b.slots at (slot.Waiting job) job free refl);
      owed = is.owed;
    }

-- what is in a slot has changed but for its place, its text and its name
pub again : (b : State) (read : ℕ) (bases : List (List ℕ)) (at : ℕ) (old new : Job) (v : Slot) → IsBook b read bases → job_at b.slots at ≡ Some old → job_of v ≡ Some new
    → new.place ≡ old.place → new.url ≡ old.url → new.name ≡ old.name → IsTry b.asking new.tries → IsBook (record b { slots = slice_set b.slots at v }) read bases
again b read bases at old new v is was now place url name tries =
    let s = inside b.slots at old was in
    let pends = is.pending at old was in
    record {
      read = is.read;
      bases = is.bases;
      named = is.named;
      fewer = is.fewer;
      pending = λ i p at_i. elim (cases b.slots at i v p at_i) [
        | inl c ↦ subst (Pends b.asking b.urls b.named b.ledger.entries) (some_same new p (sym now ∙ c.1))
            (record {
              url = ap (slice_get b.urls) place ∙ pends.url ∙ ap (λ u. Some u.items) (sym url);
              asks = subst (λ u. CanAsk b.asking u.items) (sym url) pends.asks;
              name = subst (λ n. IsNameAt b.asking b.urls new.place n) (sym name) (subst (λ n. IsNameAt b.asking b.urls n old.name) (sym place) pends.name);
              given = subst (Contains (names_of b.named)) (sym name) pends.given;
              fresh = subst (λ n. IsFresh n b.ledger.entries) (sym name) pends.fresh;
              tries = tries;
            })
        | inr c ↦ is.pending i p c.1
      ];
      apart = λ i j p q at_i at_j same. elim (cases b.slots at i v p at_i) [
        | inl one ↦ elim (cases b.slots at j v q at_j) [
          | inl two ↦ one.0 ∙ sym two.0
          | inr two ↦ one.0 ∙ is.apart at j old q was two.1 (sym name ∙ ap (λ x. x.name) (some_same new p (sym now ∙ one.1)) ∙ same)
        ]
        | inr one ↦ elim (cases b.slots at j v q at_j) [
          | inl two ↦ is.apart i at p old one.1 was (same ∙ ap (λ x. x.name) (sym (some_same new q (sym now ∙ two.1))) ∙ name) ∙ sym two.0
          | inr two ↦ is.apart i j p q one.1 two.1 same
        ]
      ];
      given = is.given;
      told = is.told;
      each = λ p lt. elim (is.each p lt) [
        | inl h ↦ elim (same_or_other h.0 at) [
          | inl e ↦ inl (at, new, there b.slots at s.0 v s.1 ∙ now, place ∙ ap (λ x. x.place) (some_same old h.1 (sym was ∙ ap (job_at b.slots) (sym e) ∙ h.2)) ∙ h.3)
          | inr e ↦ inl (h.0, h.1, stays b.slots at h.0 v e ∙ h.2, h.3)
        ]
        | inr h ↦ inr h
      ];
      count = omega (arith, is.count, as_many b.slots at v old new was now);
      owed = is.owed;
    }

-- a URL has ended
pub closed : (b : State) (read : ℕ) (bases : List (List ℕ)) (at : ℕ) (job : Job) (e : EndValue) (ts : List PrintedLineValue) (l : LedgerValue OutcomeValue) → IsBook b read bases → ts ≡ b.told ++ record { place = job.place; end = e } ∷ [] → IsEnd e → job_at b.slots at ≡ Some job
    → e.url ≡ job.url.items → MayName job.name e.file → GrowsFor job.name e.verdict b.ledger.entries l.entries → IsLaterLedger b.ledger l → HoldsOf b.asking l e e.verdict
    → IsBook (record b { slots = slice_set b.slots at slot.Free; told = ts; ledger = l }) read bases
closed b read bases at job e ts l is more end was url may grows_for later holds =
    let grows = grows_by job.name e.verdict b.ledger.entries l.entries grows_for in
    let pends = is.pending at job was in
    let t : PrintedLineValue = record { place = job.place; end = e } in
    subst (λ x. IsBook (record b { slots = slice_set b.slots at slot.Free; told = x; ledger = l }) read bases) (sym more) (record {
      read = is.read;
      bases = is.bases;
      named = is.named;
      fewer = is.fewer;
      pending = λ i p at_i. elim (cases b.slots at i slot.Free p at_i) [
        | inl c ↦ let bad : None ≡ Some p = c.1 in absurd (cc)
        | inr c ↦ let h = is.pending i p c.1 in
            record {
              url = h.url;
              asks = h.asks;
              name = h.name;
              given = h.given;
              fresh = fresh_on p.name job.name b.ledger.entries l.entries (λ same. c.0 (is.apart i at p job c.1 was same)) h.fresh grows;
              tries = h.tries;
            }
      ];
      apart = λ i j p q at_i at_j same. elim (cases b.slots at i slot.Free p at_i) [
        | inl one ↦ let bad : None ≡ Some p = one.1 in absurd (cc)
        | inr one ↦ elim (cases b.slots at j slot.Free q at_j) [
          | inl two ↦ let bad : None ≡ Some q = two.1 in absurd (cc)
          | inr two ↦ is.apart i j p q one.1 two.1 same
        ]
      ];
      given = given_on (names_of b.named) job.name b.ledger.entries l.entries pends.given is.given grows;
      told = all_push (IsTold b.asking b.urls l) b.told t (told_on b.asking b.urls job.name b.ledger l b.told grows later is.told)
          (record {
            url = pends.url ∙ ap Some (sym url);
            name = name_told b.asking b.urls job.place job.name e.file may pends.name;
            end = end;
            holds = holds;
          });
      each = λ p lt. elim (is.each p lt) [
        | inl h ↦ elim (same_or_other h.0 at) [
          | inl same ↦ inr (ended_now b.told t p (ap (λ x. x.place) (some_same job h.1 (sym was ∙ ap (job_at b.slots) (sym same) ∙ h.2)) ∙ h.3))
          | inr other ↦ inl (h.0, h.1, stays b.slots at h.0 slot.Free other ∙ h.2, h.3)
        ]
        | inr h ↦ inr (ended_more b.told t p h)
      ];
      count = omega (arith, is.count, one_less b.slots at job was, push_length b.told t);
      owed = owed_on job.name b.ledger.entries l.entries b.told t grows_for is.owed;
    })

-- all have ended
pub ended : (b : State) (read : ℕ) (bases : List (List ℕ)) → AreWhole b.ledger.entries → IsBook b read bases → count_by is_taken b.slots ≡ 0 → HaveEnded b.asking b.urls b.ledger b.told
ended b read bases whole is empty = record {
  holds = is.told;
  each = λ place lt. elim (is.each place lt) [
    | inl h ↦ absurd (none b.slots h.0 h.1 empty h.2)
    | inr h ↦ h
  ];
  count = omega (arith, is.count, empty);
  owed = is.owed;
  whole = whole;
}

-- the same, as the calls leave it
pub stood_as : (b : State) (read n : ℕ) (bases us ns bs : List (List ℕ)) (at : ℕ) (job : Job) → IsBook b read bases → n ≡ read + 1 → n < 2 ^ 64
    → us ≡ b.urls ++ job.url.items ∷ [] → ns ≡ b.named ++ job.url.items ∷ [] → bs ≡ bases ++ base_name job.url.items ∷ []
    → CanAsk b.asking job.url.items → slice_get b.slots at ≡ Some slot.Free → job.place ≡ read → job.name ≡ numbered (base_name job.url.items) (count_of bases (base_name job.url.items)) → job.tries ≡ 1
    → IsBook (record b { urls = us; named = ns; slots = slice_set b.slots at (slot.Waiting job) }) n bs
stood_as b read n bases us ns bs at job is more few u m s asks free place name first =
    let ss = slice_set b.slots at (slot.Waiting job) in
    let book = stood b read bases at job is distinct (omega (arith, more, few)) asks free place name first in
    subst (λ l. IsBook (record b { urls = us; named = ns; slots = ss }) l bs) (sym more)
    (subst (λ l. IsBook (record b { urls = us; named = ns; slots = ss }) (read + 1) l) (sym s)
    (subst (λ l. IsBook (record b { urls = us; named = l; slots = ss }) (read + 1) (bases ++ base_name job.url.items ∷ [])) (sym m)
    (subst (λ l. IsBook (record b { urls = l; named = b.named ++ job.url.items ∷ []; slots = ss }) (read + 1) (bases ++ base_name job.url.items ∷ [])) (sym u) book)))

pub refused_as : (b : State) (read n : ℕ) (bases us : List (List ℕ)) (url : List ℕ) (why : RequestError) (e : EndValue) (ts : List PrintedLineValue) → IsBook b read bases → n ≡ read + 1
    → us ≡ b.urls ++ url ∷ [] → ts ≡ b.told ++ record { place = read; end = e } ∷ [] → IsEnd e → e ≡ refused_end url why → Refuses b.asking url why
    → IsBook (record b { urls = us; told = ts }) n bases
refused_as b read n bases us url why e ts is more u told_more_ end same refuses =
    subst (λ l. IsBook (record b { urls = us; told = ts }) l bases) (sym more)
    (subst (λ l. IsBook (record b { urls = l; told = ts }) (read + 1) bases) (sym u) (refused b read bases url why e ts is told_more_ end same refuses))
