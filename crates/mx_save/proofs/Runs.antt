-- A run's saves, one after the other.
use Rattle.std.proofs.Common.{◌≡◌, ◌≢◌, ℕ, ◌+◌, ◌≤◌, ◌==◌, length, Bool, true, List, [], ◌∷◌, ◌++◌, map, Option, Some, None, Result, Ok, Err, refl, ap, sym, subst, ◌∙◌, arith, inl, inr}
use Rattle.std.specs.Prelude.{◌⊎◌}
use Rattle.std.specs.List.{Contains, AllByRecursion}
use Rattle.std.proofs.lemmas.List.{length-append}
use Rattle.std.proofs.lemmas.Bool.{cond-true, cond-false, cases_Bool, eqb-true}
use Rattle.std.proofs.lemmas.List.Elements.{Contains-append_cases, Contains-append_left, Contains-append_right}
use Rattle.std.proofs.lemmas.Map.Made.{Contains-tail}
use Rattle.mx_folder.specs.Names.{part_of}
use Rattle.mx_folder.specs.Safe.{IsSafeName, IsPartName}
use Rattle.mx_folder.specs.declared.steps.Kind.{Kind}
use Rattle.mx_folder.specs.declared.steps.Kind.TheVariants as kind
use Rattle.mx_folder.specs.declared.steps.Step.{Step}
use Rattle.mx_folder.specs.declared.steps.Step.TheVariants.{Looked, Refused}
use Rattle.mx_folder.specs.declared.steps.FolderCall.TheVariants as call
use Rattle.mx_folder.specs.declared.errors.FolderError.{FolderError}
use Rattle.mx_folder.specs.Steps.{done, looked, refusals}
use Rattle.mx_folder.specs.Files.{File, file}
use Rattle.mx_folder.specs.Moments.{IsLater, AtEachMoment, MayHave, MayBeLeft}
use Rattle.mx_save.specs.declared.error.SaveError.{SaveError}
use Rattle.mx_save.specs.declared.error.SaveError.TheVariants as error
use Rattle.mx_save.specs.Bodies.{Holds, FilesAreKept, IsBeforeOrAfter, IsGone, IsOnlyPart, LeavesOnly, left_of}
use Rattle.mx_save.specs.Ledgers.{HasOnly, AllHold, IsFresh, IsLedger, RefusedToRemove, is_taken}
use Rattle.mx_save.specs.Tries.{EndsWithRemoval, removed_by}
use Rattle.mx_save.proofs.Moments.{at_once, join, later_by, weaker, one_more}
use Rattle.mx_save.specs.Made.{without}
use Rattle.mx_save.proofs.Steps.{PartsAreKept, done_grows, name_cases, not_part, one_left, parts_from_placed}
use Rattle.mx_save.proofs.Calls.{at_end, unplaced_kept}

-- a run begins
pub begun : {B : Type 0} (content : B → List ℕ) (flush : Bool) (start : List Step) (process number : ℕ)
    → IsLedger content (record { start = start; steps = start; entries = []; flush = flush; out = []; left = []; process = process; number = number })
begun content flush start process number = record {
  since = at_once (HasOnly content flush [] start) start (λ found name safe. inl refl);
  holds = tt;
  safe = tt;
  distinct = tt;
  leaves = λ found name hidden. inl refl;
  refused = omega arith;
  removals = tt;
}

-- parts that are left, and then some more
parts_on : (left more : List (List ℕ)) (start old new : List Step) → LeavesOnly left start old → LeavesOnly more old new → LeavesOnly (more ++ left) start new
parts_on left more start old new before after found name hidden =
    elim (after found name hidden) [
      | inl same ↦ elim (before found name hidden) [
        | inl kept ↦ inl (same ∙ kept)
        | inr other ↦ elim other [
          | inl none ↦ inr (inl (same ∙ none))
          | inr has ↦ inr (inr (Contains-append_right more left name has))
        ]
      ]
      | inr other ↦ elim other [
        | inl none ↦ inr (inl none)
        | inr has ↦ inr (inr (Contains-append_left more left name has))
      ]
    ]

-- a part that came back is no more among those that are out
still_there : (process number : ℕ) (out : List ℕ) (left : List (List ℕ)) (name : List ℕ) → Contains (map (part_of process) out ++ left) name → name ≢ part_of process number
    → Contains (map (part_of process) (without number out) ++ left) name
still_there process number [] left name has differ = has
still_there process number (n ∷ out) left name has differ =
    let P : List ℕ → Type 0 = λ l. Contains (map (part_of process) l ++ left) name in
    let rest = map (part_of process) out ++ left in
    let first = part_of process n ∷ [] in
    elim (cases_Bool (n == number)) [
      | inl is ↦ subst P (sym (cond-true (n == number) out (n ∷ without number out) is))
          (Contains-tail (part_of process n) rest name (λ e. differ (sym e ∙ ap (part_of process) (eqb-true n number is))) has)
      | inr not ↦ subst P (sym (cond-false (n == number) out (n ∷ without number out) not))
          (elim (Contains-append_cases first rest name has) [
            | inl here ↦ Contains-append_left first (map (part_of process) (without number out) ++ left) name here
            | inr there ↦ Contains-append_right first (map (part_of process) (without number out) ++ left) name (still_there process number out left name there differ)
          ])
    ]

with_left : (out more left : List (List ℕ)) (name : List ℕ) → Contains (out ++ left) name → Contains (out ++ (more ++ left)) name
with_left out more left name has =
    elim (Contains-append_cases out left name has) [
      | inl a ↦ Contains-append_left out (more ++ left) name a
      | inr b ↦ Contains-append_right out (more ++ left) name (Contains-append_right more left name b)
    ]

left_or_gone : (out left : List (List ℕ)) (part : List ℕ) (why : Option FolderError) (new : List Step) (found : List ℕ → Option File) (name : List ℕ) → name ≡ part
    → (why ≡ None → IsGone part new) → (file found new name ≡ None) ⊎ Contains (out ++ (left_of part why ++ left)) name
left_or_gone out left part None new found name is gone = inl (ap (file found new) is ∙ gone refl found)
left_or_gone out left part (Some e) new found name is gone = inr (Contains-append_right out (part ∷ left) name (0, omega arith, sym is))

parts_back : (process number : ℕ) (out : List ℕ) (left : List (List ℕ)) (part : List ℕ) (why : Option FolderError) (start old new : List Step)
    → LeavesOnly (map (part_of process) out ++ left) start old → part ≡ part_of process number → PartsAreKept part old new → (why ≡ None → IsGone part new)
    → LeavesOnly (map (part_of process) (without number out) ++ (left_of part why ++ left)) start new
parts_back process number out left part why start old new before is kept gone found name hidden =
    elim (name_cases name part) [
      | inl same ↦ inr (left_or_gone (map (part_of process) (without number out)) left part why new found name same gone)
      | inr differ ↦ elim (before found name hidden) [
        | inl e ↦ inl (kept found name hidden differ ∙ e)
        | inr other ↦ elim other [
          | inl none ↦ inr (inl (kept found name hidden differ ∙ none))
          | inr has ↦ inr (inr (with_left (map (part_of process) (without number out)) (left_of part why) left name
              (still_there process number out left name has (λ e. differ (e ∙ sym is)))))
        ]
      ]
    ]

-- what was there before is kept, or what came since
only_kept : {B : Type 0} (content : B → List ℕ) (flush : Bool) (entries : List (List ℕ × B)) (start old moment : List Step)
    → HasOnly content flush entries start old → FilesAreKept old moment → HasOnly content flush entries start moment
only_kept content flush entries start old moment had kept found name safe =
    elim (had found name safe) [
      | inl e ↦ inl (kept found name safe ∙ e)
      | inr p ↦ inr (p.0, p.1, kept found name safe ∙ p.2)
    ]

all_kept : {B : Type 0} (content : B → List ℕ) (flush : Bool) (entries : List (List ℕ × B)) (old new : List Step)
    → AllByRecursion (λ entry. IsSafeName entry.0) entries → AllHold content flush entries old → FilesAreKept old new → AllHold content flush entries new
all_kept content flush [] old new safe holds kept = tt
all_kept content flush (entry ∷ entries) old new safe holds kept =
    (λ found. kept found entry.0 safe.0 ∙ holds.0 found, all_kept content flush entries old new safe.1 holds.1 kept)

-- removals that were refused by then were so later on, too
refused_on : (start old new : List Step) (left : List (List ℕ)) → IsLater old new → AllByRecursion (RefusedToRemove start old) left → AllByRecursion (RefusedToRemove start new) left
refused_on start old new [] later all = tt
refused_on start old new (part ∷ left) later all =
    let r = all.0 in
    ((r.0, r.1, r.2, later_by (Refused call.Remove part r.0 ∷ r.1) old new r.3 later), refused_on start old new left later all.1)

-- and one more, where it was refused
with_removal : (start moment new : List Step) (part : List ℕ) (why : Option FolderError) (left : List (List ℕ)) → IsLater start moment → IsLater (removed_by why part ∷ moment) new
    → AllByRecursion (RefusedToRemove start new) left → AllByRecursion (RefusedToRemove start new) (left_of part why ++ left)
with_removal start moment new part None left since until all = all
with_removal start moment new part (Some e) left since until all = ((e, moment, since, until), all)

-- no file was changed
kept_on : {B : Type 0} (content : B → List ℕ) (flush : Bool) (entries : List (List ℕ × B)) (out now : List ℕ) (left more : List (List ℕ)) (start old new : List Step) (process number next : ℕ)
    → IsLedger content (record { start = start; steps = old; entries = entries; flush = flush; out = out; left = left; process = process; number = number })
    → AtEachMoment (FilesAreKept old) old new → LeavesOnly (map (part_of process) now ++ more) start new → refusals start + length more ≤ refusals new
    → AllByRecursion (RefusedToRemove start new) more
    → IsLedger content (record { start = start; steps = new; entries = entries; flush = flush; out = now; left = more; process = process; number = next })
kept_on content flush entries out now left more start old new process number next ledger moments leaves counted removals =
    let before = at_end (HasOnly content flush entries start) start old ledger.since in
    record {
      since = join (HasOnly content flush entries start) (FilesAreKept old) start old new ledger.since moments
          (λ moment kept. only_kept content flush entries start old moment before kept);
      holds = all_kept content flush entries old new ledger.safe ledger.holds (at_end (FilesAreKept old) old new moments);
      safe = ledger.safe;
      distinct = ledger.distinct;
      leaves = leaves;
      refused = counted;
      removals = removals;
    }

-- and no part
pub same_on : {B : Type 0} (content : B → List ℕ) (flush : Bool) (entries : List (List ℕ × B)) (out : List ℕ) (left : List (List ℕ)) (start old new : List Step) (process number next : ℕ)
    → IsLedger content (record { start = start; steps = old; entries = entries; flush = flush; out = out; left = left; process = process; number = number })
    → AtEachMoment (FilesAreKept old) old new → LeavesOnly [] old new → refusals old ≤ refusals new
    → IsLedger content (record { start = start; steps = new; entries = entries; flush = flush; out = out; left = left; process = process; number = next })
same_on content flush entries out left start old new process number next ledger moments leaves grows =
    kept_on content flush entries out out left left start old new process number next ledger moments
    (parts_on (map (part_of process) out ++ left) [] start old new ledger.leaves leaves) (omega (arith, ledger.refused, grows))
    (refused_on start old new left moments.later ledger.removals)

-- a part was made
pub made_on : {B : Type 0} (content : B → List ℕ) (flush : Bool) (entries : List (List ℕ × B)) (out : List ℕ) (left : List (List ℕ)) (start old new : List Step) (process number next made : ℕ) (part : List ℕ)
    → IsLedger content (record { start = start; steps = old; entries = entries; flush = flush; out = out; left = left; process = process; number = number })
    → part ≡ part_of process made → IsPartName part → AtEachMoment (IsOnlyPart part old) old new → refusals old ≤ refusals new
    → IsLedger content (record { start = start; steps = new; entries = entries; flush = flush; out = made ∷ out; left = left; process = process; number = next })
made_on content flush entries out left start old new process number next made part ledger is hidden moments grows =
    let P : List ℕ → Type 0 = λ p. LeavesOnly (p ∷ (map (part_of process) out ++ left)) start new in
    kept_on content flush entries out (made ∷ out) left left start old new process number next ledger (unplaced_kept part old new hidden moments)
    (subst P is
    (parts_on (map (part_of process) out ++ left) (part ∷ []) start old new ledger.leaves (one_left part old new (at_end (IsOnlyPart part old) old new moments))))
    (omega (arith, ledger.refused, grows))
    (refused_on start old new left moments.later ledger.removals)

-- a part came back without a body, and is left where the folder refused to remove it
pub back_on : {B : Type 0} (content : B → List ℕ) (flush : Bool) (entries : List (List ℕ × B)) (out : List ℕ) (left : List (List ℕ)) (start old new : List Step) (process number next made : ℕ) (part : List ℕ) (why : Option FolderError)
    → IsLedger content (record { start = start; steps = old; entries = entries; flush = flush; out = out; left = left; process = process; number = number })
    → part ≡ part_of process made → AtEachMoment (FilesAreKept old) old new → PartsAreKept part old new → (why ≡ None → IsGone part new)
    → refusals old + length (left_of part why) ≤ refusals new → EndsWithRemoval old new part why
    → IsLedger content (record { start = start; steps = new; entries = entries; flush = flush; out = without made out; left = left_of part why ++ left; process = process; number = next })
back_on content flush entries out left start old new process number next made part why ledger is moments kept gone grows removal =
    let until : IsLater (removed_by why part ∷ removal.0) new = ([], removal.2) in
    kept_on content flush entries out (without made out) left (left_of part why ++ left) start old new process number next ledger moments
    (parts_back process made out left part why start old new ledger.leaves is kept gone) (omega (arith, ledger.refused, grows, length-append (left_of part why) left))
    (with_removal start removal.0 new part why left (later_by start old removal.0 ledger.since.later removal.1) until
    (refused_on start old new left moments.later ledger.removals))

-- a step that changes no file, or was refused
kept_done : {T : Type 0} (result : Result T FolderError) (step : Step) (old : List Step) → FilesAreKept old (step ∷ old) → FilesAreKept old (done result step ∷ old)
kept_done (Ok x) step old kept = kept
kept_done (Err e) step old kept = λ found name safe. refl

pub kept_step : {T : Type 0} (result : Result T FolderError) (step : Step) (old new : List Step) → new ≡ done result step ∷ old → FilesAreKept old (step ∷ old)
    → AtEachMoment (FilesAreKept old) old new
kept_step result step old new e kept =
    one_more (FilesAreKept old) old old new (done result step) (at_once (FilesAreKept old) old (λ found name safe. refl)) e
    (subst (FilesAreKept old) (sym e) (kept_done result step old kept))

-- and it leaves no part
same_parts : {T : Type 0} (result : Result T FolderError) (step : Step) (old : List Step) → LeavesOnly [] old (step ∷ old) → LeavesOnly [] old (done result step ∷ old)
same_parts (Ok x) step old same = same
same_parts (Err e) step old same = λ found name hidden. inl refl

pub no_part : {T : Type 0} (result : Result T FolderError) (step : Step) (old new : List Step) → new ≡ done result step ∷ old → LeavesOnly [] old (step ∷ old) → LeavesOnly [] old new
no_part result step old new e same = subst (LeavesOnly [] old) (sym e) (same_parts result step old same)

pub more_refused : {T : Type 0} (result : Result T FolderError) (step : Step) (old new : List Step) → new ≡ done result step ∷ old → refusals old ≤ refusals (step ∷ old)
    → refusals old ≤ refusals new
more_refused result step old new e same = omega (arith, ap refusals e, done_grows result step old same)

-- what a look found is a step that changes no file
abbrev pub told_kind : Result Kind FolderError → Kind
told_kind (Ok k) = k
told_kind (Err e) = kind.Absent

pub looked_done : (result : Result Kind FolderError) (name : List ℕ) → looked result name ≡ done result (Looked name (told_kind result))
looked_done (Ok k) name = refl
looked_done (Err e) name = refl

-- one more entry
more_entries : {B : Type 0} (content : B → List ℕ) (flush : Bool) (entry : List ℕ × B) (entries : List (List ℕ × B)) (start moment : List Step)
    → HasOnly content flush entries start moment → HasOnly content flush (entry ∷ entries) start moment
more_entries content flush entry entries start moment had found name safe =
    elim (had found name safe) [
      | inl e ↦ inl e
      | inr p ↦ inr (p.0, Contains-append_right (entry ∷ []) entries (name, p.0) p.1, p.2)
    ]

only_saved : {B : Type 0} (content : B → List ℕ) (flush : Bool) (part name : List ℕ) (body : B) (entries : List (List ℕ × B)) (start old moment : List Step)
    → IsPartName part → HasOnly content flush entries start old → IsBeforeOrAfter part name (content body) flush old moment
    → HasOnly content flush ((name, body) ∷ entries) start moment
only_saved content flush part name body entries start old moment hidden had saved found other safe =
    elim (saved found other (not_part other part safe hidden)) [
      | inl e ↦ elim (had found other safe) [
        | inl d ↦ inl (e ∙ d)
        | inr p ↦ inr (p.0, Contains-append_right ((name, body) ∷ []) entries (other, p.0) p.1, e ∙ p.2)
      ]
      | inr p ↦ inr (body, (0, omega arith, ap (λ n. (n, body)) (sym p.0)), p.1)
    ]

all_saved : {B : Type 0} (content : B → List ℕ) (flush : Bool) (part name : List ℕ) (body : B) (entries : List (List ℕ × B)) (old new : List Step)
    → IsPartName part → AllByRecursion (λ entry. IsSafeName entry.0) entries → IsFresh name entries → AllHold content flush entries old
    → IsBeforeOrAfter part name (content body) flush old new → AllHold content flush entries new
all_saved content flush part name body [] old new hidden safe fresh holds saved = tt
all_saved content flush part name body (entry ∷ entries) old new hidden safe fresh holds saved = (
  λ found. elim (saved found entry.0 (not_part entry.0 part safe.0 hidden)) [
    | inl e ↦ e ∙ holds.0 found
    | inr p ↦ absurd (fresh.0 (sym p.0))
  ],
  all_saved content flush part name body entries old new hidden safe.1 fresh.1 holds.1 saved,
)

fresh_names : {B : Type 0} (name : List ℕ) (entries : List (List ℕ × B)) → IsFresh name entries → AllByRecursion (λ other. name ≢ other) (map (λ entry. entry.0) entries)
fresh_names name [] fresh = tt
fresh_names name (entry ∷ entries) fresh = (fresh.0, fresh_names name entries fresh.1)

-- a body was saved
pub saved_on : {B : Type 0} (content : B → List ℕ) (flush : Bool) (part name : List ℕ) (body : B) (entries : List (List ℕ × B)) (out : List ℕ) (left : List (List ℕ)) (start old new : List Step) (process number next made : ℕ)
    → IsLedger content (record { start = start; steps = old; entries = entries; flush = flush; out = out; left = left; process = process; number = number })
    → part ≡ part_of process made → IsPartName part → IsSafeName name → IsFresh name entries
    → AtEachMoment (IsBeforeOrAfter part name (content body) flush old) old new → Holds name (content body) flush new → IsGone part new → refusals old ≤ refusals new
    → IsLedger content (record { start = start; steps = new; entries = (name, body) ∷ entries; flush = flush; out = without made out; left = left; process = process; number = next })
saved_on content flush part name body entries out left start old new process number next made ledger is hidden safe fresh moments holds gone grows =
    let before = at_end (HasOnly content flush entries start) start old ledger.since in
    let until = weaker (HasOnly content flush ((name, body) ∷ entries) start) (HasOnly content flush entries start) start old
    (λ moment had. more_entries content flush (name, body) entries start moment had) ledger.since in
    let end = at_end (IsBeforeOrAfter part name (content body) flush old) old new moments in
    record {
      since = join (HasOnly content flush ((name, body) ∷ entries) start) (IsBeforeOrAfter part name (content body) flush old) start old new until moments
          (λ moment saved. only_saved content flush part name body entries start old moment hidden before saved);
      holds = (holds, all_saved content flush part name body entries old new hidden ledger.safe fresh ledger.holds end);
      safe = (safe, ledger.safe);
      distinct = (fresh_names name entries fresh, ledger.distinct);
      leaves = parts_back process made out left part None start old new ledger.leaves is (parts_from_placed part name (content body) flush old new safe end) (λ none. gone);
      refused = omega (arith, ledger.refused, grows);
      removals = refused_on start old new left moments.later ledger.removals;
    }

-- what is under a name now may be left
left_now : (found : List ℕ → Option File) (old : List Step) (name bytes : List ℕ) → MayHave (file found old name) bytes → MayBeLeft found old name bytes
left_now found [] name bytes have = have
left_now found (step ∷ before) name bytes have = inl have

loss : {B : Type 0} (content : B → List ℕ) (entries : List (List ℕ × B)) (old : List Step) (found : List ℕ → Option File) (name bytes : List ℕ) → IsSafeName name → (more : List Step)
    → ((moment : List Step) → IsLater old moment → IsLater moment (more ++ old) → HasOnly content true entries old moment)
    → MayBeLeft found (more ++ old) name bytes → MayBeLeft found old name bytes ⊎ ((body : B) × Contains entries (name, body) × (bytes ≡ content body))
loss content entries old found name bytes safe [] each left = inl left
loss content entries old found name bytes safe (step ∷ more) each left =
    elim left [
      | inl have ↦ elim (each (step ∷ (more ++ old)) (step ∷ more, refl) ([], refl) found name safe) [
        | inl e ↦ inl (left_now found old name bytes (let P : Option File → Type 0 = λ o. MayHave o bytes in subst P e have))
        | inr p ↦ inr (p.0, p.1, let P : Option File → Type 0 = λ o. MayHave o bytes in subst P p.2 have refl)
      ]
      | inr before ↦ loss content entries old found name bytes safe more (λ moment a b. each moment a (step ∷ b.0, ap (λ l. step ∷ l) b.1)) before
    ]

pub whole_after_loss : {B : Type 0} (content : B → List ℕ) (entries : List (List ℕ × B)) (old new : List Step) → AtEachMoment (HasOnly content true entries old) old new
    → (found : List ℕ → Option File) (name bytes : List ℕ) → IsSafeName name → MayBeLeft found new name bytes
    → MayBeLeft found old name bytes ⊎ ((body : B) × Contains entries (name, body) × (bytes ≡ content body))
whole_after_loss content entries old new all found name bytes safe left =
    let e = all.later.1 in
    loss content entries old found name bytes safe all.later.0
    (λ moment a b. all.each moment a (b.0, e ∙ b.1))
    (let P : List Step → Type 0 = λ l. MayBeLeft found l name bytes in subst P e left)

-- a name that is taken isn't memory that was refused
pub taken_is_no_memory : (e : SaveError) (left : Option FolderError) → is_taken e left ≡ true → e ≢ error.OutOfMemory
taken_is_no_memory e left is same = let bad : is_taken error.OutOfMemory left ≡ true = subst (λ x. is_taken x left ≡ true) same is in cc
