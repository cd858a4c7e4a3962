-- Parts that are out are removed, one after the other.
use Rattle.std.proofs.Common.{◌≡◌, ℕ, Bool, List, [], ◌∷◌, ◌++◌, map, reverse, Option, Some, None, Result, Ok, Err, refl, ap, sym, subst, ◌∙◌, append_assoc, append-nil}
use Rattle.std.specs.Result.{result_err}
use Rattle.std.specs.List.{flat_map}
use Rattle.std.proofs.lemmas.Grind.{reverse_onto}
use Rattle.mx_folder.specs.Names.{part_of}
use Rattle.mx_folder.specs.Safe.{IsPartName}
use Rattle.mx_folder.specs.declared.errors.FolderError.{FolderError}
use Rattle.mx_folder.specs.declared.steps.Step.{Step}
use Rattle.mx_folder.specs.declared.steps.Step.TheVariants.{Removed}
use Rattle.mx_folder.specs.Parts.{empty_part}
use Rattle.mx_folder.specs.Steps.{done, refused_calls}
use Rattle.mx_folder.specs.Moments.{AtEachMoment, IsLater}
use Rattle.mx_save.specs.Bodies.{FilesAreKept, IsOnlyPart, left_of}
use Rattle.mx_save.specs.Ledgers.{LedgerValue, IsLedger}
use Rattle.mx_save.specs.Sweeps.{IsSwept, IsSweptOnce}
use Rattle.mx_save.specs.Tries.{removal_of, removed_by}
use Rattle.mx_save.proofs.Calls.{at_end, nothing_yet, part_removed, removed_gone, removed_more, unplaced_kept}
use Rattle.mx_save.proofs.Outs.{without_first}
use Rattle.mx_save.proofs.Runs.{back_on}
use Rattle.mx_save.proofs.Steps.{parts_from_only}

-- what the removal did, by its answer
removal_step : (result : Result Unit FolderError) (part : List ℕ) → done result (Removed part) ≡ removed_by (result_err result) part
removal_step (Ok _) part = refl
removal_step (Err error) part = refl

pub removal_is : (result : Result Unit FolderError) (why : Option FolderError) (part : List ℕ) (old new : List Step) → new ≡ done result (Removed part) ∷ old
    → why ≡ result_err result → new ≡ removed_by why part ∷ old
removal_is result why part old new is told =
    is ∙ ap (λ s. s ∷ old) (removal_step result part) ∙ ap (λ w. removed_by w part ∷ old) (sym told)

-- the removal of a part changes no file
swept_moments : (why : Option FolderError) (part : List ℕ) (old new : List Step) → new ≡ removed_by why part ∷ old → AtEachMoment (IsOnlyPart part old) old new
swept_moments why part old new is = part_removed why part (empty_part part) old old new (nothing_yet part old) refl is

pub swept_kept : (why : Option FolderError) (part : List ℕ) (old new : List Step) → IsPartName part → new ≡ removed_by why part ∷ old → AtEachMoment (FilesAreKept old) old new
swept_kept why part old new hidden is = unplaced_kept part old new hidden (swept_moments why part old new is)

-- a part that is out is removed
pub swept_on : {B : Type 0} (content : B → List ℕ) (flush : Bool) (entries : List (List ℕ × B)) (out : List ℕ) (left : List (List ℕ)) (start old new : List Step) (process number next made : ℕ) (part : List ℕ) (why : Option FolderError)
    → IsLedger content (record { start = start; steps = old; entries = entries; flush = flush; out = made ∷ out; left = left; process = process; number = number })
    → part ≡ part_of process made → IsPartName part → new ≡ removed_by why part ∷ old
    → IsLedger content (record { start = start; steps = new; entries = entries; flush = flush; out = out; left = left_of part why ++ left; process = process; number = next })
swept_on content flush entries out left start old new process number next made part why ledger named hidden is =
    subst
    (λ o. IsLedger content (record { start = start; steps = new; entries = entries; flush = flush; out = o; left = left_of part why ++ left; process = process; number = next }))
    (without_first made out)
    (back_on content flush entries (made ∷ out) left start old new process number next made part why ledger named
    (swept_kept why part old new hidden is)
    (parts_from_only part old new (at_end (IsOnlyPart part old) old new (swept_moments why part old new is)))
    (removed_gone why part (empty_part part) old new refl is)
    (removed_more why (empty_part part) old new is)
    (old, ([], refl), is))

removal_calls : (why : Option FolderError) (part : List ℕ) (old : List Step) → refused_calls (removed_by why part ∷ old) ≡ removal_of part why ++ refused_calls old
removal_calls None part old = refl
removal_calls (Some e) part old = refl

-- the parts that were removed so far
pub record AreSwept {B : Type 0} (old new : LedgerValue B) : Type 0 where
  pub answers : List (ℕ × Option FolderError)
  pub each : reverse (map (λ a. a.0) answers) ++ new.out ≡ old.out
  pub steps : new.steps ≡ map (λ a. removed_by a.1 (part_of old.process a.0)) answers ++ old.steps
  pub left : new.left ≡ flat_map (λ a. left_of (part_of old.process a.0) a.1) answers ++ old.left
  pub calls : refused_calls new.steps ≡ flat_map (λ a. removal_of (part_of old.process a.0) a.1) answers ++ refused_calls old.steps
  pub entries : new.entries ≡ old.entries
  pub start : new.start ≡ old.start
  pub flush : new.flush ≡ old.flush
  pub process : new.process ≡ old.process
  pub number : new.number ≡ old.number
  pub files : FilesAreKept old.steps new.steps

pub swept_none : {B : Type 0} (l : LedgerValue B) → AreSwept l l
swept_none l = record {
  answers = [];
  each = refl;
  steps = refl;
  left = refl;
  calls = refl;
  entries = refl;
  start = refl;
  flush = refl;
  process = refl;
  number = refl;
  files = λ found name safe. refl;
}

pub swept_more : {B : Type 0} (old mid new : LedgerValue B) → AreSwept old mid → IsSweptOnce mid new → FilesAreKept mid.steps new.steps → AreSwept old new
swept_more {B} old mid new before once files =
    let n = once.number in
    let part = part_of old.process n in
    let ns = map (λ (a : ℕ × Option FolderError). a.0) before.answers in
    let lefts = flat_map (λ (a : ℕ × Option FolderError). left_of (part_of old.process a.0) a.1) before.answers in
    let removals = flat_map (λ (a : ℕ × Option FolderError). removal_of (part_of old.process a.0) a.1) before.answers in
    let named : part_of mid.process n ≡ part = ap (λ p. part_of p n) before.process in
    let steps : new.steps ≡ removed_by once.why part ∷ mid.steps = ap (λ (l : LedgerValue B). l.steps) once.is ∙ ap (λ p. removed_by once.why p ∷ mid.steps) named in
    record {
      answers = (n, once.why) ∷ before.answers;
      each = ap (λ l. l ++ new.out) (reverse_onto ns n []) ∙ append_assoc (reverse ns) (n ∷ []) new.out ∙ ap (λ l. reverse ns ++ l) (sym once.out) ∙ before.each;
      steps = steps ∙ ap (λ l. removed_by once.why part ∷ l) before.steps;
      left = ap (λ (l : LedgerValue B). l.left) once.is ∙ ap (λ p. left_of p once.why ++ mid.left) named ∙ ap (λ l. left_of part once.why ++ l) before.left
          ∙ sym (append_assoc (left_of part once.why) lefts old.left);
      calls = ap refused_calls steps ∙ removal_calls once.why part mid.steps ∙ ap (λ l. removal_of part once.why ++ l) before.calls
          ∙ sym (append_assoc (removal_of part once.why) removals (refused_calls old.steps));
      entries = ap (λ (l : LedgerValue B). l.entries) once.is ∙ before.entries;
      start = ap (λ (l : LedgerValue B). l.start) once.is ∙ before.start;
      flush = ap (λ (l : LedgerValue B). l.flush) once.is ∙ before.flush;
      process = ap (λ (l : LedgerValue B). l.process) once.is ∙ before.process;
      number = ap (λ (l : LedgerValue B). l.number) once.is ∙ before.number;
      files = λ found name safe. files found name safe ∙ before.files found name safe;
    }

pub swept_all : {B : Type 0} (old new : LedgerValue B) → AreSwept old new → new.out ≡ [] → IsSwept old new
swept_all old new swept none =
    let numbers = reverse (map (λ (a : ℕ × Option FolderError). a.0) swept.answers) in
    record {
      answers = swept.answers;
      each = sym (append-nil numbers) ∙ ap (λ l. numbers ++ l) (sym none) ∙ swept.each;
      steps = swept.steps;
      left = swept.left;
      calls = swept.calls;
    }

pub swept_later : {B : Type 0} (old new : LedgerValue B) → AreSwept old new → IsLater old.steps new.steps
swept_later old new swept = (map (λ a. removed_by a.1 (part_of old.process a.0)) swept.answers, swept.steps)
